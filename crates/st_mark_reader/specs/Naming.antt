-- How a name is told as a JSON value, and which value tells which name.
use Rattle.std.specs.Prelude.{Option, option_and_then}
use Rattle.serde_json.specs.Data.{Data, string}
use Rattle.serde_json.specs.Find.{as_str}
use Rattle.st_ids.specs.Names.{rev_text, atom_text, read_rev, read_atom}
use Rattle.st_ids.specs.declared.names.Atom.{Atom}
use Rattle.st_ids.specs.declared.names.Rev.{Rev}

-- the value that tells a revision, and the value that tells an atom, the name of a node or a cell
pub record Naming : Type 0 where
  pub rev : Rev → Data
  pub atom : Atom → Data

-- the revision and the atom that a value tells, if it tells one
pub record NameForm : Type 0 where
  pub rev : Data → Option Rev
  pub atom : Data → Option Atom

-- a revision as the text `s.n`, an atom as the text `s.n.a`
abbrev pub plain_naming : Naming
plain_naming = record { rev = λ r. string (rev_text r); atom = λ a. string (atom_text a) }

abbrev pub plain_form : NameForm
plain_form = record { rev = λ d. option_and_then read_rev (as_str d); atom = λ d. option_and_then read_atom (as_str d) }
