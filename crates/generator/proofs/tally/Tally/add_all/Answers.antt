-- The replies are counted one after another.
use Rattle.generator.proofs.Lemmas.{arith, ℕ, List, [], map, take, length, slice_index_or, sym, ap, ◌∙◌, subst, append-nil, append_assoc, map_more, take_all, Reply, PlainReply, reply_of, Counts, counts-one-more}
use Rattle.std.proofs.Common.{◌≡◌, ◌<◌, ◌+◌, ◌∷◌, ◌++◌}
use Rattle.generator.proofs.tally.Tally.add_all.Goals as goal

pub loop-reply-init : goal.loop-reply-init
loop-reply-init c = record {
  counts = λ rs has. simp append-nil has;
  replies = omega arith;
}

pub add-requires : goal.add-requires
add-requires c = omega arith

-- one more reply comes at the end
one-more : (rs : List PlainReply) (xs : List Reply) (i : ℕ) (r : Reply) → i < length xs → r ≡ slice_index_or xs i r
    → (rs ++ map reply_of (take i xs)) ++ reply_of r ∷ [] ≡ rs ++ map reply_of (take (i + 1) xs)
one-more rs xs i r h is =
    append_assoc rs (map reply_of (take i xs)) (reply_of r ∷ [])
    ∙ ap (λ ys. rs ++ ys) (sym (map_more reply_of xs i r h ∙ ap (λ v. map reply_of (take i xs) ++ reply_of v ∷ []) (sym is)))

pub loop-reply-preserved : goal.loop-reply-preserved
loop-reply-preserved c = record {
  counts = λ rs has. subst (Counts c.add.new.self) (one-more rs c.args.replies.now c.loop-reply.reply-index c.reply-item.result c.loop-reply-test.true c.reply-item.is)
      (counts-one-more c.loop-reply.self c.add.new.self _ (reply_of c.reply-item.result) c.add.ensures (c.loop-reply.invariant.counts rs has));
  replies = omega (arith, c.add.ensures.replied);
}

pub returns-clause-counts : goal.returns-clause-counts
returns-clause-counts c = λ rs has.
    let all : take c.loop-reply.reply-index c.args.replies.now ≡ c.args.replies.now = take_all c.loop-reply.reply-index c.args.replies.now (omega arith) in
    subst (λ xs. Counts c.loop-reply.self (rs ++ map reply_of xs)) all (c.loop-reply.invariant.counts rs has)

pub returns-clause-replies : goal.returns-clause-replies
returns-clause-replies c = omega arith
