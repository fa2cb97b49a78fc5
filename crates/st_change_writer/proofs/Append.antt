-- Pieces one after another, and the texts that they are.
use Rattle.std.proofs.Common.{◌≡◌, refl, sym, ap, ◌∙◌, ℕ, Bool, true, false, List, [], ◌∷◌, ◌++◌, map, append_assoc, codes, None, Some, arith}
use Rattle.std.specs.Prelude.{decimal, ◌<◌, ◌^◌}
use Rattle.std.specs.Char.{is_ascii_digit}
use Rattle.std.specs.List.{list_all}
use Rattle.json.specs.Print.{escape, escape_byte}
use Rattle.serde_json.specs.Data.{boolean, string}
use Rattle.serde_json.specs.Written.{compact_text}
use Rattle.st_ids.specs.declared.names.Atom.{Atom}
use Rattle.st_ids.specs.declared.names.CellId.{CellId}
use Rattle.st_ids.specs.declared.names.NodeId.{NodeId}
use Rattle.st_ids.specs.declared.names.Rev.{Rev}
use Rattle.st_lemmas.proofs.Bools.{and-true}
use Rattle.st_marks.specs.declared.marks.How.{How}
use Rattle.st_marks.specs.declared.marks.Mark.{Mark}
use Rattle.st_marks.specs.declared.marks.RowMarks.{RowMarks}
use Rattle.st_change_codec.specs.Changes.{how_text, list_data}
use Rattle.st_mark_reader.specs.Naming.{Naming, plain_naming}
use Rattle.std.proofs.lemmas.Bool.Decides.{nat_tests}
use Rattle.std.proofs.lemmas.Fmt.{digits_decimal}
use Rattle.st_ids.specs.LeafText.{leaf_data}
use Rattle.st_ids.specs.declared.names.Leaf.{Leaf}
use Rattle.st_ids.proofs.Numerals.{own}
use Rattle.st_marks.specs.declared.changes.Change.{Change}
use Rattle.st_marks.specs.declared.marks.Loose.{Loose}
use Rattle.st_marks.specs.declared.marks.RegMark.{RegMark}
use Rattle.st_change_writer.specs.Listed.{loose_data, made_data, mark_data, new_data, node_data, node_or_null, register_data, row_data}
use Rattle.st_change_codec.specs.SchemaTexts.{text_data}
use Rattle.st_change_writer.specs.Told.{edits_data, upgrade_data}
use Rattle.st_change_writer.specs.Texts.{atom_inside, bool_text, cell_mark_text, head_text, how_front, how_quoted, make_front, middle_text, rev_inside, tail_text, upgrade_head_text}

-- three pieces
pub three : (a b c d : List ℕ) → ((a ++ b) ++ c) ++ d ≡ a ++ (b ++ (c ++ d))
three a b c d = append_assoc (a ++ b) c d ∙ append_assoc a b (c ++ d)

pub gap_is : (out : List ℕ) (n : Naming) (c : CellId) → ((out ++ codes "[\"gap\",") ++ compact_text (n.atom c.0)) ++ codes "]" ≡ out ++ compact_text (mark_data n (Mark.Gap c))
unfolding escape_byte
gap_is out n c = three out (codes "[\"gap\",") (compact_text (n.atom c.0)) (codes "]")

pub touch_is : (n : Naming) (c : CellId) (x : NodeId) (how : How) → cell_mark_text (how_front how) (compact_text (n.atom c.0)) (compact_text (n.atom x.0)) ≡ compact_text (mark_data n (Mark.Touch c x how))
unfolding escape_byte
touch_is n c x How.Stay = refl
touch_is n c x How.Here = refl
touch_is n c x How.Leave = refl

pub make_is : (n : Naming) (c : CellId) (x : NodeId) (full : Bool) → cell_mark_text (make_front full) (compact_text (n.atom c.0)) (compact_text (n.atom x.0)) ≡ compact_text (mark_data n (Mark.Make c x full))
unfolding escape_byte
make_is n c x true = refl
make_is n c x false = refl

pub fill_is : (n : Naming) (c : CellId) (x : NodeId) → cell_mark_text (codes "[\"fill\",") (compact_text (n.atom c.0)) (compact_text (n.atom x.0)) ≡ compact_text (mark_data n (Mark.Fill c x))
unfolding escape_byte
fill_is n c x = refl

-- five pieces
pub five : (o a b c d e : List ℕ) → ((((o ++ a) ++ b) ++ c) ++ d) ++ e ≡ o ++ (a ++ (b ++ (c ++ (d ++ e))))
five o a b c d e = simp append_assoc

pub row_is : (out : List ℕ) (n : Naming) (r : RowMarks) → ((((out ++ codes "[") ++ compact_text (n.atom r.node.0)) ++ codes ",") ++ compact_text (list_data (map (mark_data n) r.marks))) ++ codes "]" ≡ out ++ compact_text (row_data n r)
row_is out n r = five out (codes "[") (compact_text (n.atom r.node.0)) (codes ",") (compact_text (list_data (map (mark_data n) r.marks))) (codes "]")

-- ## Plain names

digit_is_plain : (x : ℕ) → is_ascii_digit x ≡ true → escape_byte x ≡ x ∷ []
unfolding escape_byte
digit_is_plain x h = grind (arith, nat_tests)

digits_are_plain : (ds : List ℕ) → list_all is_ascii_digit ds ≡ true → escape ds ≡ ds
digits_are_plain [] h = refl
digits_are_plain (x ∷ ds) h =
    let both = and-true (is_ascii_digit x) (list_all is_ascii_digit ds) h in
    λ i. digit_is_plain x both.0 i ++ digits_are_plain ds both.1 i

escape_append : (a b : List ℕ) → escape (a ++ b) ≡ escape a ++ escape b
escape_append [] b = refl
escape_append (x ∷ a) b = ap (λ (ys : List ℕ). escape_byte x ++ ys) (escape_append a b) ∙ sym (append_assoc (escape_byte x) (escape a) (escape b))

point_is_plain : (a : List ℕ) → escape (46 ∷ a) ≡ 46 ∷ escape a
unfolding escape_byte
point_is_plain a = refl

decimal_is_plain : (n : ℕ) → n < 2 ^ 64 → escape (decimal n) ≡ decimal n
decimal_is_plain n h = digits_are_plain (decimal n) (digits_decimal own n h)

point_between : (a b : List ℕ) → escape (a ++ 46 ∷ b) ≡ escape a ++ 46 ∷ escape b
point_between a b = escape_append a (46 ∷ b) ∙ ap (λ (t : List ℕ). escape a ++ t) (point_is_plain b)

pub digits_are : (out : List ℕ) (n : ℕ) → n < 2 ^ 64 → out ++ decimal n ≡ out ++ escape (decimal n)
digits_are out n h = ap (λ (t : List ℕ). out ++ t) (sym (decimal_is_plain n h))

pub pair_is : (out : List ℕ) (r : Rev) → ((out ++ escape (decimal r.session)) ++ codes ".") ++ escape (decimal r.num) ≡ out ++ escape (rev_inside r)
pair_is out r = three out (escape (decimal r.session)) (codes ".") (escape (decimal r.num)) ∙ ap (λ (t : List ℕ). out ++ t) (sym (point_between (decimal r.session) (decimal r.num)))

pub rev_is : (out : List ℕ) (r : Rev) → ((out ++ codes "\"") ++ escape (rev_inside r)) ++ codes "\"" ≡ out ++ compact_text (plain_naming.rev r)
rev_is out r = three out (codes "\"") (escape (rev_inside r)) (codes "\"")

atom_inside_is : (a : Atom) → atom_inside a ≡ decimal a.rev.session ++ (46 ∷ (decimal a.rev.num ++ (46 ∷ decimal a.at)))
atom_inside_is a = append_assoc (decimal a.rev.session) (46 ∷ decimal a.rev.num) (46 ∷ decimal a.at)

pub atom_is : (out : List ℕ) (a : Atom) → ((((out ++ codes "\"") ++ escape (rev_inside a.rev)) ++ codes ".") ++ escape (decimal a.at)) ++ codes "\"" ≡ out ++ compact_text (plain_naming.atom a)
atom_is out a =
    five out (codes "\"") (escape (rev_inside a.rev)) (codes ".") (escape (decimal a.at)) (codes "\"")
    ∙ ap (λ (t : List ℕ). out ++ (34 ∷ t)) (sym (append_assoc (escape (rev_inside a.rev)) (46 ∷ escape (decimal a.at)) (codes "\"")))
    ∙ ap (λ (t : List ℕ). out ++ (34 ∷ (t ++ 34 ∷ []))) (sym (point_between (rev_inside a.rev) (decimal a.at)) ∙ ap escape (atom_inside_is a))

-- ## Rows, registers and nodes

pub bool_is : (b : Bool) → bool_text b ≡ compact_text (boolean b)
bool_is true = refl
bool_is false = refl

pub how_is : (h : How) → how_quoted h ≡ compact_text (string (how_text h))
unfolding escape_byte
how_is How.Stay = refl
how_is How.Here = refl
how_is How.Leave = refl

pub loose_is : (out : List ℕ) (n : Naming) (l : Loose) → ((((out ++ codes "[") ++ compact_text (n.atom l.node.0)) ++ codes ",") ++ how_quoted l.how) ++ codes "]" ≡ out ++ compact_text (loose_data n l)
loose_is out n l = five out (codes "[") (compact_text (n.atom l.node.0)) (codes ",") (how_quoted l.how) (codes "]") ∙ ap (λ (t : List ℕ). out ++ (91 ∷ (compact_text (n.atom l.node.0) ++ (44 ∷ (t ++ 93 ∷ []))))) (how_is l.how)

pub branch_is : (out : List ℕ) (n : Naming) (x : NodeId) (ty : List ℕ) → ((((out ++ codes "[") ++ compact_text (n.atom x.0)) ++ codes ",") ++ compact_text (string ty)) ++ codes "]" ≡ out ++ compact_text (made_data n x ty None)
branch_is out n x ty = five out (codes "[") (compact_text (n.atom x.0)) (codes ",") (compact_text (string ty)) (codes "]")

pub seven : (o a b c d e f g : List ℕ) → ((((((o ++ a) ++ b) ++ c) ++ d) ++ e) ++ f) ++ g ≡ o ++ (a ++ (b ++ (c ++ (d ++ (e ++ (f ++ g))))))
seven o a b c d e f g = simp append_assoc

pub leaf_is : (out : List ℕ) (n : Naming) (x : NodeId) (ty : List ℕ) (v : Leaf) → ((((((out ++ codes "[") ++ compact_text (n.atom x.0)) ++ codes ",") ++ compact_text (string ty)) ++ codes ",") ++ compact_text (leaf_data v)) ++ codes "]" ≡ out ++ compact_text (made_data n x ty (Some v))
leaf_is out n x ty v = seven out (codes "[") (compact_text (n.atom x.0)) (codes ",") (compact_text (string ty)) (codes ",") (compact_text (leaf_data v)) (codes "]")

-- the first half of a register's text, and the second
pub register_is : (out : List ℕ) (n : Naming) (r : RegMark)
    → ((((((out ++ codes "[") ++ compact_text (n.atom r.field.node.0)) ++ codes ",") ++ compact_text (string r.field.key.0)) ++ codes ",") ++ compact_text (node_or_null n r.held)) ++ (codes "," ++ (how_quoted r.how ++ (codes "," ++ (bool_text r.clear ++ (codes "," ++ (compact_text (node_or_null n r.fill) ++ codes "]"))))))
    ≡ out ++ compact_text (register_data n r)
register_is out n r =
    seven out (codes "[") (compact_text (n.atom r.field.node.0)) (codes ",") (compact_text (string r.field.key.0)) (codes ",") (compact_text (node_or_null n r.held)) (codes "," ++ (how_quoted r.how ++ (codes "," ++ (bool_text r.clear ++ (codes "," ++ (compact_text (node_or_null n r.fill) ++ codes "]"))))))
    ∙ (λ i. out ++ (91 ∷ (compact_text (n.atom r.field.node.0) ++ (44 ∷ (compact_text (string r.field.key.0) ++ (44 ∷ (compact_text (node_or_null n r.held) ++ (44 ∷ (how_is r.how i ++ (44 ∷ (bool_is r.clear i ++ (44 ∷ (compact_text (node_or_null n r.fill) ++ 93 ∷ [])))))))))))))

-- ## Changes

nested : (a b f l g e h m j r k v p w q u z : List ℕ) → (a ++ (b ++ ((f ++ l) ++ (g ++ e)))) ++ (((h ++ m) ++ (j ++ r)) ++ ((k ++ v) ++ ((p ++ w) ++ ((q ++ u) ++ z))))
    ≡ a ++ (b ++ (f ++ (l ++ (g ++ (e ++ (h ++ (m ++ (j ++ (r ++ (k ++ (v ++ (p ++ (w ++ (q ++ (u ++ z)))))))))))))))
nested a b f l g e h m j r k v p w q u z = simp append_assoc

edits_text_is : (n : Naming) (c : Change) → head_text n c ++ (middle_text n c ++ tail_text n c) ≡ compact_text (edits_data n c)
unfolding escape_byte
edits_text_is n c =
    nested (codes "{\"base\":") (compact_text (boolean c.base)) (codes ",\"loose\":") (compact_text (list_data (map (loose_data n) c.loose))) (codes ",\"need\":") (compact_text (list_data (map (node_data n) c.need)))
    (codes ",\"new\":") (compact_text (list_data (map (new_data n) c.new))) (codes ",\"regs\":") (compact_text (list_data (map (register_data n) c.regs)))
    (codes ",\"rev\":") (compact_text (n.rev c.rev)) (codes ",\"rows\":") (compact_text (list_data (map (row_data n) c.rows))) (codes ",\"under\":") (compact_text (n.rev c.under)) (codes "}")

pub edits_are : (out : List ℕ) (n : Naming) (c : Change) → ((out ++ head_text n c) ++ middle_text n c) ++ tail_text n c ≡ out ++ compact_text (edits_data n c)
edits_are out n c = three out (head_text n c) (middle_text n c) (tail_text n c) ∙ ap (λ (t : List ℕ). out ++ t) (edits_text_is n c)

upgrade_nested : (a b c d e f g h i : List ℕ) → (a ++ (b ++ ((c ++ d) ++ e))) ++ (f ++ (g ++ (h ++ i))) ≡ a ++ (b ++ (c ++ (d ++ (e ++ (f ++ (g ++ (h ++ i)))))))
upgrade_nested a b c d e f g h i = simp append_assoc

-- a change of the schema
pub upgrade_is : (out : List ℕ) (n : Naming) (c : Change) (t : List ℕ)
    → ((((out ++ upgrade_head_text n c) ++ compact_text (text_data t)) ++ codes ",\"under\":") ++ compact_text (n.rev c.under)) ++ codes "}" ≡ out ++ compact_text (upgrade_data n c t)
unfolding escape_byte
upgrade_is out n c t =
    five out (upgrade_head_text n c) (compact_text (text_data t)) (codes ",\"under\":") (compact_text (n.rev c.under)) (codes "}")
    ∙ ap (λ (x : List ℕ). out ++ x) (upgrade_nested (codes "{\"base\":") (compact_text (boolean c.base)) (codes ",\"rev\":") (compact_text (n.rev c.rev)) (codes ",\"schema\":") (compact_text (text_data t)) (codes ",\"under\":") (compact_text (n.rev c.under)) (codes "}"))
