-- Reading and telling, one against the other.
use Rattle.std.specs.Prelude.{◌≡◌, false, is_some, Option, Some}
use Rattle.serde_json.specs.Data.{Data}
use Rattle.serde_json.specs.Find.{as_null}
use Rattle.st_ids.specs.declared.names.Atom.{Atom}
use Rattle.st_mark_reader.specs.Naming.{Naming, NameForm}
use Rattle.st_change_laws.specs.Signed.{NumbersAreSigned}

-- what a value is read as is told by that value alone, and is of a kind
abbrev pub Reads : {A : Type 0} → (Data → Option A) → (A → Data) → (A → Type 0) → Type 0
Reads {A} f g P = (d : Data) (x : A) → NumbersAreSigned d → f d ≡ Some x → (d ≡ g x) × P x

-- what is told of a thing of a kind is read as that thing
abbrev pub Writes : {A : Type 0} → (Data → Option A) → (A → Data) → (A → Type 0) → Type 0
Writes {A} f g P = (x : A) → P x → f (g x) ≡ Some x

-- what is told of an atom of a kind is no null, and is read as that atom
abbrev pub WritesNames : NameForm → Naming → (Atom → Type 0) → Type 0
WritesNames F n A = (a : Atom) → A a → (F.atom (n.atom a) ≡ Some a) × (is_some (as_null (n.atom a)) ≡ false)
