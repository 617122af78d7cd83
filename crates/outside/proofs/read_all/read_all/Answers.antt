-- Each read goes on from what has been read so far.
use Rattle.outside.proofs.Lemmas.{arith, length-take, one_more, all_read, none_left, within_limit}
use Rattle.outside.proofs.read_all.read_all.Goals as goal

pub loop-bytes-preserved : goal.loop-bytes-preserved
loop-bytes-preserved g c = record {
  buffer = c.loop-bytes.invariant.buffer;
  within = omega (arith, length-take c.min-most.result c.deref_mut.result.now, c.deref_mut.ensures.len, c.min-most.ensures, c.loop-bytes.bytes.ok.0, c.in_ok-read_piece.ensures.count, c.in_ok-read_piece.ensures.len);
  later = omega (arith, c.in_ok-read_piece.ensures.later);
  quiet = λ was. (c.in_ok-read_piece.ensures.quiet (c.loop-bytes.invariant.quiet was)).1;
  told = one_more _ _ _ _ _ c.in_ok-read_piece.field-0 c.loop-bytes.invariant.told c.in_ok-read_piece.ensures.piece c.in_ok-read_piece.ensures.rest;
}

pub returns-in_err-read_piece-clause-taken : goal.returns-in_err-read_piece-clause-taken
returns-in_err-read_piece-clause-taken g c = within_limit _ _ _ _ _ 16777217 c.loop-bytes.invariant.told (omega (arith, length-take c.min-most.result c.deref_mut.result.now, c.deref_mut.ensures.len, c.min-most.ensures, c.loop-bytes.bytes.ok.0)) c.in_err-read_piece.ensures.rest_err

pub returns-then-branch-eq0-clause-all : goal.returns-then-branch-eq0-clause-all
returns-then-branch-eq0-clause-all g c = all_read _ _ _ _ c.in_ok-read_piece.field-0 c.loop-bytes.invariant.told c.in_ok-read_piece.ensures.piece
    (λ rest is. c.in_ok-read_piece.ensures.end rest is (omega arith) (omega (arith, length-take c.min-most.result c.deref_mut.result.now, c.deref_mut.ensures.len, c.min-most.ensures, c.loop-bytes.bytes.ok.0)))

pub returns-then-branch-eq0-clause-rest : goal.returns-then-branch-eq0-clause-rest
returns-then-branch-eq0-clause-rest g c = none_left _ _ _ _ c.in_ok-read_piece.field-0 (omega arith) c.loop-bytes.invariant.told
    (λ rest is. c.in_ok-read_piece.ensures.end rest is (omega arith) (omega (arith, length-take c.min-most.result c.deref_mut.result.now, c.deref_mut.ensures.len, c.min-most.ensures, c.loop-bytes.bytes.ok.0))) c.in_ok-read_piece.ensures.rest

pub returns-then-branch-eq0-clause-taken : goal.returns-then-branch-eq0-clause-taken
returns-then-branch-eq0-clause-taken g c = within_limit _ _ _ _ _ 16777217 c.loop-bytes.invariant.told (omega (arith, length-take c.min-most.result c.deref_mut.result.now, c.deref_mut.ensures.len, c.min-most.ensures, c.loop-bytes.bytes.ok.0)) c.in_ok-read_piece.ensures.rest_err
