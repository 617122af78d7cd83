use Rattle.native_containers.proofs.Lemmas.{sym, subst, arith, IsUtf8, common_steps, repr_text, utf8_repr}
use Rattle.std.proofs.Common.{◌≡◌}
use Rattle.native_containers.proofs.native_texts.of_bytes.repr_text.Goals as goal

pub string_of-requires : goal.string_of-requires
string_of-requires c =
    let written : c.push-2.new.self.items ≡ repr_text c.args.text.now = grind (arith, common_steps) in
    subst IsUtf8 (sym written) (utf8_repr c.args.text.now c.utf8.text)
