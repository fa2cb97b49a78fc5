use Rattle.st_idcodec.proofs.read.is_text.Goals as goal

pub returns : goal.returns
returns c = simp (c.encode_lower-written.ensures.text, c.hyphenated.ensures, c.from_u128.ensures) at c.eq.ensures
