-- The line of a relation.
use Rattle.std.specs.Prelude.{ℕ, List, [], ◌∷◌, ◌++◌, map, codes}
use Rattle.serde_json.specs.Data.{Data, string, array, object, no_items, item, no_members, member}
use Rattle.serde_json.specs.View.{items_of}
use Rattle.serde_json.specs.Written.{compact_text}
use Rattle.st_compat.specs.declared.relation.Cause.{Cause}
use Rattle.st_compat.specs.declared.relation.Relation.{Relation}
use Rattle.st_compat.specs.declared.relation.Relation.TheVariants as relation
use Rattle.st_compat.specs.declared.relation.Why.{Why}

abbrev pub why_word : Why → List ℕ
why_word Why.Absent = codes "absent"
why_word Why.Shape = codes "shape"
why_word Why.Allow = codes "allow"
why_word Why.Fields = codes "fields"
why_word Why.Root = codes "root"

-- `[type,why]`
abbrev pub cause_data : Cause → Data
cause_data c = array (item (string c.ty) (item (string (why_word c.why)) no_items))

abbrev pub causes_data : List Cause → Data
causes_data causes = array (items_of (map cause_data causes))

-- `{"ok":"compat","view":word}`
abbrev pub view_data : List ℕ → Data
view_data word = object (member (codes "ok") (string (codes "compat")) (member (codes "view") (string word) no_members))

-- the same with the causes
abbrev pub refusal_data : Data → Data
refusal_data causes = object (member (codes "causes") causes (member (codes "ok") (string (codes "compat")) (member (codes "view") (string (codes "Refuse")) no_members)))

abbrev pub refuse_data : List Cause → Data
refuse_data causes = refusal_data (causes_data causes)

abbrev pub relation_data : Relation → Data
relation_data relation.Equal = view_data (codes "Equal")
relation_data relation.Upgrade = view_data (codes "Upgrade")
relation_data relation.Viewable = view_data (codes "Viewable")
relation_data (relation.Refuse causes) = refuse_data causes

abbrev pub relation_line : Relation → List ℕ
relation_line r = compact_text (relation_data r) ++ 10 ∷ []
