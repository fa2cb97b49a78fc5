-- What a line asks of the algebra, or the first test that it fails.
use Rattle.std.specs.Prelude.{◌≡◌, ℕ, List, Option, None, Some, Result, Ok, Err}
use Rattle.serde_json.specs.Data.{Data}
use Rattle.st_json.specs.Line.{line_value}
use Rattle.st_json.specs.declared.fault.BadCause.{BadCause}
use Rattle.st_requests.specs.Form.{form_of}
use Rattle.st_requests.specs.Normal.{IsNormal}
use Rattle.st_requests.specs.declared.request.Request.{Request}

-- a value of the form of a request is that request, or not normal
abbrev pub IsJudged : Request → Result Request BadCause → Type 0
IsJudged q (Ok r) = (r ≡ q) × IsNormal q
IsJudged q (Err c) = (c ≡ BadCause.NotNormal) × (IsNormal q → ⊥)

abbrev pub IsOfForm : Option Request → Result Request BadCause → Type 0
IsOfForm None r = r ≡ Err BadCause.Shape
IsOfForm (Some q) r = IsJudged q r

abbrev pub IsOfValue : Option Data → Result Request BadCause → Type 0
IsOfValue None r = r ≡ Err BadCause.Json
IsOfValue (Some d) r = IsOfForm (form_of d) r

-- the bytes of a line without its feed: no JSON, no request, one whose arguments aren't normal, or a request
abbrev pub IsRequest : List ℕ → Result Request BadCause → Type 0
IsRequest line r = IsOfValue (line_value line) r
