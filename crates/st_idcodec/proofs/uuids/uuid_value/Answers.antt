use Rattle.st_idcodec.proofs.uuids.uuid_value.Goals as goal

pub returns : goal.returns
returns c = simp (c.encode_lower-text.ensures.text, c.hyphenated.ensures, c.from_u128.ensures) at c.text_value.ensures
