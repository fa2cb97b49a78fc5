use Rattle.std.proofs.Common.{◌<◌, ◌+◌, ◌^◌, ◌∙◌, ap, rules, arith, length}
use Rattle.st_marks.specs.Row.{spread}
use Rattle.st_passing.proofs.Seats.{count-length, make_length, make_makes, one_make, one_skip, skip_length, skip_makes}
use Rattle.st_passing.proofs.raise.count_all.Goals as goal

pub overflow_add-place : goal.overflow_add-place
overflow_add-place c =
    let n = skip_length c.in-Skip.k c.loop-rest.rest.now c.in-len1-up.len_at_least c.in-Skip.is in
    let h : c.loop-rest.place + c.in-Skip.k < 2 ^ 32 = omega (arith, n, c.loop-rest.invariant.places) in
    search rules

pub loop-rest-preserved-in-Skip : goal.loop-rest-preserved-in-Skip
loop-rest-preserved-in-Skip c =
    let n = skip_length c.in-Skip.k c.loop-rest.rest.now c.in-len1-up.len_at_least c.in-Skip.is in
    let m = skip_makes c.in-Skip.k c.loop-rest.rest.now c.in-len1-up.len_at_least c.in-Skip.is in
    record {
      whole = one_skip c.args.among c.loop-rest.place c.in-Skip.k (spread c.loop-rest.marks) _ c.loop-rest.rest.now c.in-len1-up.len_at_least c.in-Skip.is c.loop-rest.invariant.whole;
      room = omega (arith, m, c.loop-rest.invariant.room);
      merged = c.loop-rest.invariant.merged;
      places = omega (arith, n, c.loop-rest.invariant.places);
    }

pub loop-rest-preserved-in_ok-count_at-in-Make : goal.loop-rest-preserved-in_ok-count_at-in-Make
loop-rest-preserved-in_ok-count_at-in-Make c =
    let n = make_length c.loop-rest.rest.now c.in-Make.cell c.in-Make.node c.in-Make.full c.in-len1-up.len_at_least c.in-Make.is in
    let m = make_makes c.loop-rest.rest.now c.in-Make.cell c.in-Make.node c.in-Make.full c.in-len1-up.len_at_least c.in-Make.is in
    let k = ap length c.in_ok-count_at-in-Make.ensures.cells ∙ count-length c.args.among c.loop-rest.place (spread c.loop-rest.marks) in
    record {
      whole = one_make c.args.among c.loop-rest.place (spread c.loop-rest.marks) _ _ c.loop-rest.rest.now c.in-Make.cell c.in-Make.node c.in-Make.full c.in-len1-up.len_at_least c.in-Make.is c.in_ok-count_at-in-Make.ensures.cells c.loop-rest.invariant.whole;
      room = omega (arith, m, k, c.loop-rest.invariant.room);
      merged = λ h. c.in_ok-count_at-in-Make.ensures.merged (c.loop-rest.invariant.merged h);
      places = omega (arith, n, c.loop-rest.invariant.places);
    }
