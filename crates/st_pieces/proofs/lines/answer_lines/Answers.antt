use Rattle.std.proofs.Common.{◌≡◌, rules, ℕ, List, [], ap, arith, length, sym, subst}
use Rattle.st_pieces.specs.inside.Reached.{IsReached}
use Rattle.st_pieces.proofs.Outcomes.{nothing_partly, start_reached}
use Rattle.st_pieces.proofs.lines.answer_lines.Goals as goal

pub turns-init : goal.turns-init
turns-init g c =
    let left = g.S.Source.left c.args.source.now in
    let w = g.K.Sink.written c.args.sink.now in
    let empty : c.new.result.items ≡ [] = c.new.ensures.items in
    let none : length c.new.result.items ≡ 0 = ap length empty in
    record {
      stands = c.requires.stands;
      reached = λ s stands. (
        s,
        stands,
        subst (λ (t : List ℕ). IsReached g.R.Responder.Takes s left w s left w 1 0 t) (sym empty)
            (start_reached g.R.Responder.Takes g.R.Responder.Ends g.R.Responder.Finishes g.R.Responder.Fails s left w),
      );
      placed = record { from = omega arith; number = omega arith; start = omega arith; within = omega (arith, none); size = omega (arith, none); seen = omega (arith, none); searched = tt };
      piece = search rules;
      read_later = omega arith;
      later = omega arith;
    }

pub turns-preserved : goal.turns-preserved
turns-preserved g c = record {
  stands = c.in-Ok-turn.ensures.stands;
  reached = λ first stands.
      let at = c.turns.invariant.reached first stands in
      c.in-Ok-turn.ensures.goes at.0 first (g.S.Source.left c.args.source.now) (g.K.Sink.written c.args.sink.now) at.1 at.2;
  piece = c.turns.invariant.piece;
  placed = c.in-Ok-turn.ensures.placed;
  read_later = omega (arith, c.turns.invariant.read_later, c.turn.ensures.read_later);
  later = omega (arith, c.turns.invariant.later, c.turn.ensures.later);
}

pub returns-in-Err-clause-told : goal.returns-in-Err-clause-told
returns-in-Err-clause-told g c = λ first stands.
    let at = c.turns.invariant.reached first stands in
    c.in-Err.ensures.ended at.0 first (g.S.Source.left c.args.source.now) (g.K.Sink.written c.args.sink.now) at.1 at.2

pub returns-in_default-clause-told : goal.returns-in_default-clause-told
returns-in_default-clause-told g c = λ first stands.
    let left = g.S.Source.left c.args.source.now in
    let w = g.K.Sink.written c.args.sink.now in
    nothing_partly g.R.Responder.Takes g.R.Responder.Ends g.R.Responder.Finishes g.R.Responder.Fails first left w first left w 1 0 []
    (start_reached g.R.Responder.Takes g.R.Responder.Ends g.R.Responder.Finishes g.R.Responder.Fails first left w)
