use Rattle.class_table.proofs.Lemmas.{List, length, map, sym, ap, ◌∙◌, length-map, ClassChange, Change, change_of, next-made, left-over, ends, counts}
use Rattle.std.proofs.Common.{◌≡◌}
use Rattle.class_table.proofs.class_log.replica.Replica.follow.Goals as goal

-- the place where the rest begins
begins : (done : List Change) (changes : List ClassChange) → map change_of changes ≡ done → length changes ≡ length done
begins done changes is = sym (length-map changes change_of) ∙ ap (λ (cs : List Change). length cs) is

pub make_all-requires : goal.make_all-requires
make_all-requires c =
    next-made c.args.self.now c.args.log.now c.requires.follows (length c.changes-begin.result.now) (begins c.args.self.now c.changes-begin.result.now c.changes-begin.ensures)

pub returns-in_err-make_all-clause-left : goal.returns-in_err-make_all-clause-left
returns-in_err-make_all-clause-left c =
    left-over c.args.self.now c.args.log.now c.requires.follows (length c.changes-begin.result.now) (begins c.args.self.now c.changes-begin.result.now c.changes-begin.ensures) c.make_all.new.self c.in_err-make_all.ensures.left

pub returns-clause-whole : goal.returns-clause-whole
returns-clause-whole c =
    ends c.args.self.now c.args.log.now c.requires.follows (length c.changes-begin.result.now) (begins c.args.self.now c.changes-begin.result.now c.changes-begin.ensures) c.make_all.new.self c.in_ok-make_all.ensures.whole

pub returns-clause-count : goal.returns-clause-count
returns-clause-count c =
    counts c.args.self.now c.args.log.now c.requires.follows (length c.changes-begin.result.now) (begins c.args.self.now c.changes-begin.result.now c.changes-begin.ensures)

pub returns-clause-left : goal.returns-clause-left
returns-clause-left c =
    left-over c.args.self.now c.args.log.now c.requires.follows (length c.changes-begin.result.now) (begins c.args.self.now c.changes-begin.result.now c.changes-begin.ensures) c.make_all.new.self c.in_ok-make_all.ensures.left
