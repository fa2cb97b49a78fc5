-- What a value is read as in op space: a change in normal form, or the first test that it fails.
use Rattle.std.specs.Prelude.{◌≡◌, Option, None, Some, Result, Ok, Err}
use Rattle.serde_json.specs.Data.{Data}
use Rattle.st_clusters.specs.declared.at.At.{At}
use Rattle.st_idcodec.specs.declared.names.CodecFault.{CodecFault}
use Rattle.st_idcodec.specs.declared.names.CodecFault.TheVariants.{NotNormal, Shape, Unknown}
use Rattle.st_marks.specs.declared.changes.Change.{Change}
use Rattle.st_normal_texts.specs.NormalTexts.{IsNormalText}
use Rattle.st_mark_reader.specs.OpSpace.{any_form, op_form}
use Rattle.st_change_reader.specs.Reading.{change_of}

-- a change whose names have ids is that change, or not normal
abbrev pub IsJudged : Change → Result Change CodecFault → Type 0
IsJudged C (Ok D) = (D ≡ C) × IsNormalText C
IsJudged C (Err c) = (c ≡ NotNormal) × (IsNormalText C → ⊥)

-- a value of the form some of whose numbers name no id
abbrev pub IsNamed : Option Change → Result Change CodecFault → Type 0
IsNamed None r = r ≡ Err Unknown
IsNamed (Some C) r = IsJudged C r

-- the form is judged first, whatever the numbers name
abbrev pub IsOfForm : Option Change → Option Change → Result Change CodecFault → Type 0
IsOfForm None o r = r ≡ Err Shape
IsOfForm (Some any) o r = IsNamed o r

abbrev pub IsReadAt : At → Data → Result Change CodecFault → Type 0
IsReadAt a d r = IsOfForm (change_of any_form d) (change_of (op_form a) d) r
