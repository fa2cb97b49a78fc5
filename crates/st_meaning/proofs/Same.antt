-- What `==` says of changes and their parts: that they are one.
use Rattle.std.proofs.Common.{◌≡◌, ℕ, Bool, true, false, ◌&&◌, nat_eq, List, Option, Some, None, refl, sym, ap, subst, arith}
use Rattle.std.proofs.lemmas.Bool.Decides.{Decides-int_eq, nat_tests}
use Rattle.std.specs.Bool.{Decides}
use mathlib.Core.Bool.{beq}
use Rattle.std.specs.Cmp.Lexicographic.{bytes_decides, pointwise}
use Rattle.std.proofs.lemmas.Slice.Eq.{slice_eq-Decides}
use Rattle.std.specs.Option.{option_eq}
use Rattle.st_lemmas.proofs.Bools.{and-both, and-true}
use Rattle.st_ids.specs.declared.names.Atom.{Atom}
use Rattle.st_ids.specs.declared.names.CellId.{CellId}
use Rattle.st_ids.specs.declared.names.FieldId.{FieldId}
use Rattle.st_ids.specs.declared.names.NodeId.{NodeId}
use Rattle.st_ids.specs.declared.names.Rev.{Rev}
use Rattle.st_marks.specs.declared.marks.How.{How}
use Rattle.st_marks.specs.declared.marks.How.TheVariants.{Stay, Here, Leave}
use Rattle.st_marks.specs.declared.marks.Mark.{Mark}
use Rattle.st_marks.specs.declared.marks.Mark.TheVariants.{Skip, Gap, Touch, Make, Fill}
use Rattle.st_marks.specs.declared.marks.Loose.{Loose}
use Rattle.st_marks.specs.declared.marks.RegMark.{RegMark}
use Rattle.st_marks.specs.declared.marks.RowMarks.{RowMarks}
use Rattle.st_marks.specs.declared.changes.Change.{Change}
use Rattle.st_marks.specs.declared.changes.NewNode.{NewNode}
use Rattle.st_ids.specs.declared.names.Leaf.{Leaf}
use Rattle.st_ids.specs.declared.names.Leaf.TheVariants.{Null, Int, Words}
use Rattle.st_ids.specs.declared.names.Leaf.TheVariants as kind
use Rattle.st_ids.specs.contracts.names.LeafPartialEq.TheImpl as leaf
use Rattle.st_marks.specs.contracts.changes.ChangePartialEq.TheImpl as change
use Rattle.st_marks.specs.contracts.changes.NewNodePartialEq.TheImpl as new
use Rattle.st_marks.specs.contracts.marks.LoosePartialEq.TheImpl as loose
use Rattle.st_marks.specs.contracts.marks.RegMarkPartialEq.TheImpl as reg
use Rattle.st_marks.specs.contracts.marks.HowPartialEq.TheImpl as how
use Rattle.st_marks.specs.contracts.marks.MarkPartialEq.TheImpl as mark
use Rattle.st_marks.specs.contracts.marks.RowMarksPartialEq.TheImpl as row

-- ## What decides

-- a test that tells whether two are one
abbrev IsSame : {A : Type 0} → (A → A → Bool) → Type 0
IsSame {A} E = (a b : A) → Decides (E a b) (a ≡ b)

by_both : {A : Type 0} (E : A → A → Bool) → ((a b : A) → E a b ≡ true → a ≡ b) → ((a : A) → E a a ≡ true) → IsSame E
by_both E f g a b = (f a b, λ e. subst (λ z. E a z ≡ true) e (g a))

-- ## Names

number_is : (m n : ℕ) → nat_eq m n ≡ true → m ≡ n
number_is m n e = grind (arith, nat_tests)

number_itself : (n : ℕ) → nat_eq n n ≡ true
number_itself n = grind (arith, nat_tests)

abbrev rev_eq : Rev → Rev → Bool
rev_eq a b = nat_eq a.session b.session && nat_eq a.num b.num

rev_is : (a b : Rev) → rev_eq a b ≡ true → a ≡ b
rev_is a b e = let p = and-true _ _ e in λ i. record { session = number_is a.session b.session p.0 i; num = number_is a.num b.num p.1 i }

rev_itself : (a : Rev) → rev_eq a a ≡ true
rev_itself a = and-both _ _ (number_itself a.session) (number_itself a.num)

abbrev atom_eq : Atom → Atom → Bool
atom_eq a b = rev_eq a.rev b.rev && nat_eq a.at b.at

atom_is : (a b : Atom) → atom_eq a b ≡ true → a ≡ b
atom_is a b e = let p = and-true _ _ e in λ i. record { rev = rev_is a.rev b.rev p.0 i; at = number_is a.at b.at p.1 i }

atom_itself : (a : Atom) → atom_eq a a ≡ true
atom_itself a = and-both _ _ (rev_itself a.rev) (number_itself a.at)

node_is : (a b : NodeId) → atom_eq a.0 b.0 ≡ true → a ≡ b
node_is a b e = λ i. record { 0 = atom_is a.0 b.0 e i }

cell_is : (a b : CellId) → atom_eq a.0 b.0 ≡ true → a ≡ b
cell_is a b e = λ i. record { 0 = atom_is a.0 b.0 e i }

field_is : (a b : FieldId) → (atom_eq a.node.0 b.node.0 && pointwise nat_eq a.key.0 b.key.0) ≡ true → a ≡ b
field_is a b e =
    let p = and-true (atom_eq a.node.0 b.node.0) (pointwise nat_eq a.key.0 b.key.0) e in
    λ i. record { node = node_is a.node b.node p.0 i; key = record { 0 = (bytes_decides a.key.0 b.key.0).0 p.1 i } }

-- ## Marks

how_is : (a b : How) → how.eq-value.it a b ≡ true → a ≡ b
how_is Stay Stay e = refl
how_is Here Here e = refl
how_is Leave Leave e = refl
how_is Stay Here e = absurd (cc)
how_is Stay Leave e = absurd (cc)
how_is Here Stay e = absurd (cc)
how_is Here Leave e = absurd (cc)
how_is Leave Stay e = absurd (cc)
how_is Leave Here e = absurd (cc)

how_itself : (a : How) → how.eq-value.it a a ≡ true
how_itself Stay = refl
how_itself Here = refl
how_itself Leave = refl

touch_is : (a b : CellId) (m n : NodeId) (x y : How) → mark.eq-value.it (Touch a m x) (Touch b n y) ≡ true → Touch a m x ≡ Touch b n y
touch_is a b m n x y e =
    let p = and-true (atom_eq a.0 b.0) (atom_eq m.0 n.0 && how.eq-value.it x y) e in
    let q = and-true (atom_eq m.0 n.0) (how.eq-value.it x y) p.1 in
    λ i. Touch (cell_is a b p.0 i) (node_is m n q.0 i) (how_is x y q.1 i)

make_is : (a b : CellId) (m n : NodeId) (x y : Bool) → mark.eq-value.it (Make a m x) (Make b n y) ≡ true → Make a m x ≡ Make b n y
make_is a b m n true true e =
    let p = and-true (atom_eq a.0 b.0) (atom_eq m.0 n.0 && true) e in
    let q = and-true (atom_eq m.0 n.0) true p.1 in
    λ i. Make (cell_is a b p.0 i) (node_is m n q.0 i) true
make_is a b m n false false e =
    let p = and-true (atom_eq a.0 b.0) (atom_eq m.0 n.0 && true) e in
    let q = and-true (atom_eq m.0 n.0) true p.1 in
    λ i. Make (cell_is a b p.0 i) (node_is m n q.0 i) false
make_is a b m n true false e =
    let p = and-true (atom_eq a.0 b.0) (atom_eq m.0 n.0 && false) e in
    let q = and-true (atom_eq m.0 n.0) false p.1 in absurd (cc)
make_is a b m n false true e =
    let p = and-true (atom_eq a.0 b.0) (atom_eq m.0 n.0 && false) e in
    let q = and-true (atom_eq m.0 n.0) false p.1 in absurd (cc)

fill_is : (a b : CellId) (m n : NodeId) → mark.eq-value.it (Fill a m) (Fill b n) ≡ true → Fill a m ≡ Fill b n
fill_is a b m n e =
    let p = and-true (atom_eq a.0 b.0) (atom_eq m.0 n.0) e in
    λ i. Fill (cell_is a b p.0 i) (node_is m n p.1 i)

mark_is : (a b : Mark) → mark.eq-value.it a b ≡ true → a ≡ b
mark_is (Skip m) (Skip n) e = ap Skip (number_is m n e)
mark_is (Gap a) (Gap b) e = ap Gap (cell_is a b e)
mark_is (Touch a m x) (Touch b n y) e = touch_is a b m n x y e
mark_is (Make a m x) (Make b n y) e = make_is a b m n x y e
mark_is (Fill a m) (Fill b n) e = fill_is a b m n e
mark_is (Skip m) (Gap b) e = absurd (cc)
mark_is (Skip m) (Touch b n y) e = absurd (cc)
mark_is (Skip m) (Make b n y) e = absurd (cc)
mark_is (Skip m) (Fill b n) e = absurd (cc)
mark_is (Gap a) (Skip n) e = absurd (cc)
mark_is (Gap a) (Touch b n y) e = absurd (cc)
mark_is (Gap a) (Make b n y) e = absurd (cc)
mark_is (Gap a) (Fill b n) e = absurd (cc)
mark_is (Touch a m x) (Skip n) e = absurd (cc)
mark_is (Touch a m x) (Gap b) e = absurd (cc)
mark_is (Touch a m x) (Make b n y) e = absurd (cc)
mark_is (Touch a m x) (Fill b n) e = absurd (cc)
mark_is (Make a m x) (Skip n) e = absurd (cc)
mark_is (Make a m x) (Gap b) e = absurd (cc)
mark_is (Make a m x) (Touch b n y) e = absurd (cc)
mark_is (Make a m x) (Fill b n) e = absurd (cc)
mark_is (Fill a m) (Skip n) e = absurd (cc)
mark_is (Fill a m) (Gap b) e = absurd (cc)
mark_is (Fill a m) (Touch b n y) e = absurd (cc)
mark_is (Fill a m) (Make b n y) e = absurd (cc)

mark_itself : (a : Mark) → mark.eq-value.it a a ≡ true
mark_itself (Skip m) = number_itself m
mark_itself (Gap a) = atom_itself a.0
mark_itself (Touch a m x) = and-both (atom_eq a.0 a.0) (atom_eq m.0 m.0 && how.eq-value.it x x) (atom_itself a.0) (and-both (atom_eq m.0 m.0) (how.eq-value.it x x) (atom_itself m.0) (how_itself x))
mark_itself (Make a m true) = and-both (atom_eq a.0 a.0) (atom_eq m.0 m.0 && true) (atom_itself a.0) (and-both (atom_eq m.0 m.0) true (atom_itself m.0) refl)
mark_itself (Make a m false) = and-both (atom_eq a.0 a.0) (atom_eq m.0 m.0 && true) (atom_itself a.0) (and-both (atom_eq m.0 m.0) true (atom_itself m.0) refl)
mark_itself (Fill a m) = and-both (atom_eq a.0 a.0) (atom_eq m.0 m.0) (atom_itself a.0) (atom_itself m.0)

marks_same : IsSame (pointwise mark.eq-value.it)
marks_same xs ys = slice_eq-Decides (by_both mark.eq-value.it mark_is mark_itself) xs ys (pointwise mark.eq-value.it xs ys) refl

-- ## Rows

row_is : (a b : RowMarks) → row.eq-value.it a b ≡ true → a ≡ b
row_is a b e =
    let p = and-true (atom_eq a.node.0 b.node.0) (pointwise mark.eq-value.it a.marks b.marks) e in
    λ i. record { node = node_is a.node b.node p.0 i; marks = (marks_same a.marks b.marks).0 p.1 i }

row_itself : (a : RowMarks) → row.eq-value.it a a ≡ true
row_itself a = and-both (atom_eq a.node.0 a.node.0) (pointwise mark.eq-value.it a.marks a.marks) (atom_itself a.node.0) ((marks_same a.marks a.marks).1 refl)

-- ## Nodes that may be none

some_is : (o p : Option NodeId) → option_eq (λ (m n : NodeId). atom_eq m.0 n.0) o p ≡ true → o ≡ p
some_is None None e = refl
some_is (Some m) (Some n) e = ap Some (node_is m n e)
some_is None (Some n) e = absurd (cc)
some_is (Some m) None e = absurd (cc)

some_itself : (o : Option NodeId) → option_eq (λ (m n : NodeId). atom_eq m.0 n.0) o o ≡ true
some_itself None = refl
some_itself (Some m) = atom_itself m.0

text_is : (o p : Option (List ℕ)) → option_eq (pointwise nat_eq) o p ≡ true → o ≡ p
text_is None None e = refl
text_is (Some m) (Some n) e = ap Some ((bytes_decides m n).0 e)
text_is None (Some n) e = absurd (cc)
text_is (Some m) None e = absurd (cc)

text_itself : (o : Option (List ℕ)) → option_eq (pointwise nat_eq) o o ≡ true
text_itself None = refl
text_itself (Some m) = (bytes_decides m m).1 refl

-- ## Registers and loose nodes

loose_is : (a b : Loose) → loose.eq-value.it a b ≡ true → a ≡ b
loose_is a b e = let p = and-true (atom_eq a.node.0 b.node.0) (how.eq-value.it a.how b.how) e in λ i. record { node = node_is a.node b.node p.0 i; how = how_is a.how b.how p.1 i }

loose_itself : (a : Loose) → loose.eq-value.it a a ≡ true
loose_itself a = and-both (atom_eq a.node.0 a.node.0) (how.eq-value.it a.how a.how) (atom_itself a.node.0) (how_itself a.how)

bool_is : (a b : Bool) → beq a b ≡ true → a ≡ b
bool_is true true e = refl
bool_is false false e = refl
bool_is true false e = absurd (cc)
bool_is false true e = absurd (cc)

bool_itself : (a : Bool) → beq a a ≡ true
bool_itself true = refl
bool_itself false = refl

abbrev nodes_eq : Option NodeId → Option NodeId → Bool
nodes_eq = option_eq (λ (m n : NodeId). atom_eq m.0 n.0)

abbrev field_eq : FieldId → FieldId → Bool
field_eq a b = atom_eq a.node.0 b.node.0 && pointwise nat_eq a.key.0 b.key.0

reg_is : (a b : RegMark) → reg.eq-value.it a b ≡ true → a ≡ b
reg_is a b e =
    let p1 = and-true (field_eq a.field b.field) (nodes_eq a.held b.held && (how.eq-value.it a.how b.how && (beq a.clear b.clear && nodes_eq a.fill b.fill))) e in
    let p2 = and-true (nodes_eq a.held b.held) (how.eq-value.it a.how b.how && (beq a.clear b.clear && nodes_eq a.fill b.fill)) p1.1 in
    let p3 = and-true (how.eq-value.it a.how b.how) (beq a.clear b.clear && nodes_eq a.fill b.fill) p2.1 in
    let p4 = and-true (beq a.clear b.clear) (nodes_eq a.fill b.fill) p3.1 in
    λ i. record {
      field = field_is a.field b.field p1.0 i;
      held = some_is a.held b.held p2.0 i;
      how = how_is a.how b.how p3.0 i;
      clear = bool_is a.clear b.clear p4.0 i;
      fill = some_is a.fill b.fill p4.1 i;
    }

field_itself : (a : FieldId) → field_eq a a ≡ true
field_itself a = and-both (atom_eq a.node.0 a.node.0) (pointwise nat_eq a.key.0 a.key.0) (atom_itself a.node.0) ((bytes_decides a.key.0 a.key.0).1 refl)

reg_itself : (a : RegMark) → reg.eq-value.it a a ≡ true
reg_itself a =
    let p4 = and-both (beq a.clear a.clear) (nodes_eq a.fill a.fill) (bool_itself a.clear) (some_itself a.fill) in
    let p3 = and-both (how.eq-value.it a.how a.how) (beq a.clear a.clear && nodes_eq a.fill a.fill) (how_itself a.how) p4 in
    let p2 = and-both (nodes_eq a.held a.held) (how.eq-value.it a.how a.how && (beq a.clear a.clear && nodes_eq a.fill a.fill)) (some_itself a.held) p3 in
    and-both (field_eq a.field a.field) (nodes_eq a.held a.held && (how.eq-value.it a.how a.how && (beq a.clear a.clear && nodes_eq a.fill a.fill))) (field_itself a.field) p2

-- ## New nodes

leaf_is : (a b : Leaf) → leaf.eq-value.it a b ≡ true → a ≡ b
leaf_is Null Null e = refl
leaf_is (kind.Bool x) (kind.Bool y) e = ap kind.Bool (bool_is x y e)
leaf_is (Int m) (Int n) e = ap Int ((Decides-int_eq m n).0 e)
leaf_is (Words m) (Words n) e = ap Words ((bytes_decides m n).0 e)
leaf_is Null (kind.Bool y) e = absurd (cc)
leaf_is Null (Int n) e = absurd (cc)
leaf_is Null (Words n) e = absurd (cc)
leaf_is (kind.Bool x) Null e = absurd (cc)
leaf_is (kind.Bool x) (Int n) e = absurd (cc)
leaf_is (kind.Bool x) (Words n) e = absurd (cc)
leaf_is (Int m) Null e = absurd (cc)
leaf_is (Int m) (kind.Bool y) e = absurd (cc)
leaf_is (Int m) (Words n) e = absurd (cc)
leaf_is (Words m) Null e = absurd (cc)
leaf_is (Words m) (kind.Bool y) e = absurd (cc)
leaf_is (Words m) (Int n) e = absurd (cc)

leaf_itself : (a : Leaf) → leaf.eq-value.it a a ≡ true
leaf_itself Null = refl
leaf_itself (kind.Bool x) = bool_itself x
leaf_itself (Int m) = (Decides-int_eq m m).1 refl
leaf_itself (Words m) = (bytes_decides m m).1 refl

value_is : (o p : Option Leaf) → option_eq leaf.eq-value.it o p ≡ true → o ≡ p
value_is None None e = refl
value_is (Some m) (Some n) e = ap Some (leaf_is m n e)
value_is None (Some n) e = absurd (cc)
value_is (Some m) None e = absurd (cc)

value_itself : (o : Option Leaf) → option_eq leaf.eq-value.it o o ≡ true
value_itself None = refl
value_itself (Some m) = leaf_itself m

new_is : (a b : NewNode) → new.eq-value.it a b ≡ true → a ≡ b
new_is a b e =
    let p = and-true (atom_eq a.node.0 b.node.0) (pointwise nat_eq a.ty b.ty && option_eq leaf.eq-value.it a.leaf b.leaf) e in
    let q = and-true (pointwise nat_eq a.ty b.ty) (option_eq leaf.eq-value.it a.leaf b.leaf) p.1 in
    λ i. record { node = node_is a.node b.node p.0 i; ty = (bytes_decides a.ty b.ty).0 q.0 i; leaf = value_is a.leaf b.leaf q.1 i }

new_itself : (a : NewNode) → new.eq-value.it a a ≡ true
new_itself a = and-both (atom_eq a.node.0 a.node.0) (pointwise nat_eq a.ty a.ty && option_eq leaf.eq-value.it a.leaf a.leaf) (atom_itself a.node.0)
    (and-both (pointwise nat_eq a.ty a.ty) (option_eq leaf.eq-value.it a.leaf a.leaf) ((bytes_decides a.ty a.ty).1 refl) (value_itself a.leaf))

-- ## Changes

abbrev node_eq : NodeId → NodeId → Bool
node_eq a b = atom_eq a.0 b.0

needs_same : IsSame (pointwise node_eq)
needs_same xs ys = slice_eq-Decides (by_both node_eq node_is (λ a. atom_itself a.0)) xs ys (pointwise node_eq xs ys) refl

news_same : IsSame (pointwise new.eq-value.it)
news_same xs ys = slice_eq-Decides (by_both new.eq-value.it new_is new_itself) xs ys (pointwise new.eq-value.it xs ys) refl

rows_same : IsSame (pointwise row.eq-value.it)
rows_same xs ys = slice_eq-Decides (by_both row.eq-value.it row_is row_itself) xs ys (pointwise row.eq-value.it xs ys) refl

regs_same : IsSame (pointwise reg.eq-value.it)
regs_same xs ys = slice_eq-Decides (by_both reg.eq-value.it reg_is reg_itself) xs ys (pointwise reg.eq-value.it xs ys) refl

all_loose_same : IsSame (pointwise loose.eq-value.it)
all_loose_same xs ys = slice_eq-Decides (by_both loose.eq-value.it loose_is loose_itself) xs ys (pointwise loose.eq-value.it xs ys) refl

abbrev end_eq : Change → Change → Bool
end_eq a b = pointwise loose.eq-value.it a.loose b.loose && option_eq (pointwise nat_eq) a.schema b.schema

abbrev rows_eq : Change → Change → Bool
rows_eq a b = pointwise row.eq-value.it a.rows b.rows && (pointwise reg.eq-value.it a.regs b.regs && end_eq a b)

abbrev lists_eq : Change → Change → Bool
lists_eq a b = pointwise node_eq a.need b.need && (pointwise new.eq-value.it a.new b.new && rows_eq a b)

change_is : (a b : Change) → change.eq-value.it a b ≡ true → a ≡ b
change_is a b e =
    let p1 = and-true (rev_eq a.rev b.rev) (rev_eq a.under b.under && (beq a.base b.base && lists_eq a b)) e in
    let p2 = and-true (rev_eq a.under b.under) (beq a.base b.base && lists_eq a b) p1.1 in
    let p3 = and-true (beq a.base b.base) (lists_eq a b) p2.1 in
    let p4 = and-true (pointwise node_eq a.need b.need) (pointwise new.eq-value.it a.new b.new && rows_eq a b) p3.1 in
    let p5 = and-true (pointwise new.eq-value.it a.new b.new) (rows_eq a b) p4.1 in
    let p6 = and-true (pointwise row.eq-value.it a.rows b.rows) (pointwise reg.eq-value.it a.regs b.regs && end_eq a b) p5.1 in
    let p7 = and-true (pointwise reg.eq-value.it a.regs b.regs) (end_eq a b) p6.1 in
    let p8 = and-true (pointwise loose.eq-value.it a.loose b.loose) (option_eq (pointwise nat_eq) a.schema b.schema) p7.1 in
    λ i. record {
      rev = rev_is a.rev b.rev p1.0 i;
      under = rev_is a.under b.under p2.0 i;
      base = bool_is a.base b.base p3.0 i;
      need = (needs_same a.need b.need).0 p4.0 i;
      new = (news_same a.new b.new).0 p5.0 i;
      rows = (rows_same a.rows b.rows).0 p6.0 i;
      regs = (regs_same a.regs b.regs).0 p7.0 i;
      loose = (all_loose_same a.loose b.loose).0 p8.0 i;
      schema = text_is a.schema b.schema p8.1 i;
    }

change_itself : (a : Change) → change.eq-value.it a a ≡ true
change_itself a =
    let p8 = and-both (pointwise loose.eq-value.it a.loose a.loose) (option_eq (pointwise nat_eq) a.schema a.schema) ((all_loose_same a.loose a.loose).1 refl) (text_itself a.schema) in
    let p7 = and-both (pointwise reg.eq-value.it a.regs a.regs) (end_eq a a) ((regs_same a.regs a.regs).1 refl) p8 in
    let p6 = and-both (pointwise row.eq-value.it a.rows a.rows) (pointwise reg.eq-value.it a.regs a.regs && end_eq a a) ((rows_same a.rows a.rows).1 refl) p7 in
    let p5 = and-both (pointwise new.eq-value.it a.new a.new) (rows_eq a a) ((news_same a.new a.new).1 refl) p6 in
    let p4 = and-both (pointwise node_eq a.need a.need) (pointwise new.eq-value.it a.new a.new && rows_eq a a) ((needs_same a.need a.need).1 refl) p5 in
    let p3 = and-both (beq a.base a.base) (lists_eq a a) (bool_itself a.base) p4 in
    let p2 = and-both (rev_eq a.under a.under) (beq a.base a.base && lists_eq a a) (rev_itself a.under) p3 in
    and-both (rev_eq a.rev a.rev) (rev_eq a.under a.under && (beq a.base a.base && lists_eq a a)) (rev_itself a.rev) p2

pub changes_decide : (a b : Change) (r : Bool) → r ≡ change.eq-value.it a b → Decides r (a ≡ b)
changes_decide a b r e = subst (λ t. Decides t (a ≡ b)) (sym e) (by_both change.eq-value.it change_is change_itself a b)
