use Rattle.class_world.proofs.Lemmas.{refl, sym, ap, ◌∙◌, [], map, subst, on_ok_weaker, AText, the_str, with_node, next_node, with_entries, held_entries, held_text, is_held_key, plain, Holds, IsName, KeysDiffer, no-key, text-read, entries-stay, new-key-differs, new-key-read}
use Rattle.std.proofs.Common.{◌≡◌, ◌∷◌, ◌++◌}
use Rattle.class_world.proofs.world.World.add_value.Goals as goal

pub push_entry-requires-clause-differs : goal.push_entry-requires-clause-differs
push_entry-requires-clause-differs c =
    let old = c.args.self.now in
    let m = c.make_node.new.self in
    let t = c.readable.ensures.0 in
    let r = c.in_ok-key.ensures.reads t c.readable.ensures.1 in
    let x = held_text old c.args.name in
    let text = c.in_ok-text.ensures t r ∙ text-read t old c.args.name r c.requires.name in
    let made : plain t m ≡ with_node (plain t old) the_str (AText x) = c.in_ok-key.ensures.made t ∙ (λ i. with_node (plain t old) (c.class_of_texts-class.ensures.place i) (AText (text i))) in
    let number = c.in_ok-key.ensures.number t ∙ ap (next_node (plain t old)) c.class_of_texts-class.ensures.place in
    let none = no-key (is_held_key old.nodes x) (held_entries old.nodes c.args.dict) (sym c.requires.absent) in
    let differs = new-key-differs t old m x made (held_entries old.nodes c.args.dict) c.in_ok-key.key c.args.value number none c.requires.entries.1 c.in_ok-key.ensures.grows in
    subst (λ es. Holds m (KeysDiffer (map (λ e. e.0) (es ++ (c.in_ok-key.key, c.args.value) ∷ [])))) (sym (entries-stay t old m x made c.args.dict c.requires.dict)) differs

pub push_entry-requires-clause-read : goal.push_entry-requires-clause-read
push_entry-requires-clause-read c =
    let old = c.args.self.now in
    let m = c.make_node.new.self in
    let t = c.readable.ensures.0 in
    let r = c.in_ok-key.ensures.reads t c.readable.ensures.1 in
    let x = t.text c.args.name.0 in
    let text = c.in_ok-text.ensures t r in
    let made : plain t m ≡ with_node (plain t old) the_str (AText x) = c.in_ok-key.ensures.made t ∙ (λ i. with_node (plain t old) (c.class_of_texts-class.ensures.place i) (AText (text i))) in
    let number = c.in_ok-key.ensures.number t ∙ ap (next_node (plain t old)) c.class_of_texts-class.ensures.place in
    new-key-read t old m x made c.args.name c.in_ok-key.key c.readable.ensures.1 (c.in_ok-key.ensures.grows.still (IsName c.args.name) c.requires.name) refl number

pub returns-clause-added : goal.returns-clause-added
returns-clause-added c =
    let old = c.args.self.now in
    let m = c.make_node.new.self in
    on_ok_weaker c.push_entry.result (λ pushed t r.
    let reads = c.in_ok-key.ensures.reads t (c.push_entry.ensures.reads t r) in
    let text = c.in_ok-text.ensures t reads in
    let made : plain t m ≡ with_node (plain t old) the_str (AText (t.text c.args.name.0)) = c.in_ok-key.ensures.made t ∙ (λ i. with_node (plain t old) (c.class_of_texts-class.ensures.place i) (AText (text i))) in
    let number = c.in_ok-key.ensures.number t ∙ ap (next_node (plain t old)) c.class_of_texts-class.ensures.place in
    let same = entries-stay t old m (t.text c.args.name.0) made c.args.dict c.requires.dict in
    pushed t ∙ (λ i. with_entries (made i) c.args.dict (same i ++ (number i, c.args.value) ∷ []))) c.push_entry.ensures.pushed
