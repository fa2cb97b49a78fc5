use Rattle.st_laws.proofs.together.stand_together.Goals as goal

pub returns : goal.returns
returns c = λ C S room w v g.
    let n = c.stand_beside.ensures C S w v g in
    let a = c.each_has_a_verdict.ensures.verdict n.0 n.2 n.3.before in
    let b = c.each_has_a_verdict.ensures.verdict n.1 n.2 n.3.after in
    record {
      earlier = n.0;
      later = n.1;
      intent = n.2;
      before = a.0;
      after = b.0;
      extends = n.3;
      fits = n.4;
      fits_later = n.5;
      short = n.6;
      short_later = c.room_is_enough.ensures n.0 n.1 n.2 C S n.3 n.4 n.6 n.7 n.8 room;
      change = n.7;
      step = n.8;
      verdict = a.1;
      verdict_later = b.1;
    }
