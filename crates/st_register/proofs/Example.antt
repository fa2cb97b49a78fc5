-- A change that puts a new node into a register where another stands, and two steps over it.
use Rattle.std.proofs.Common.{◌≡◌, ◌≢◌, ℕ, Bool, true, false, Option, Some, None, refl, ap, IfSome, arith}
use Rattle.std.specs.Option.{option_map_or}
use Rattle.st_ids.specs.Order.{same_node}
use Rattle.st_ids.specs.declared.names.NodeId.{NodeId}
use Rattle.st_marks.specs.declared.marks.How.TheVariants.{Stay}
use Rattle.st_ids.specs.Root.{root}
use Rattle.st_register.specs.declared.values.RegChange.{RegChange}
use Rattle.st_register.specs.declared.values.RegHeld.{RegHeld}
use Rattle.st_register.specs.inside.NormalForm.{IsNormalRegChange}
use Rattle.st_register.specs.Register.{RegPart, RegFits, RegKeeps, RegLeadsOver, RegCanHold, reg_carried, reg_change_of}
use Rattle.st_register.proofs.Parts.{told}
use Rattle.st_register.proofs.Registers.{holding}
use Rattle.st_register.proofs.Forms.{told_fits, told_is}

-- a node of a session
abbrev node : ℕ → ℕ → NodeId
node s k = record { 0 = record { rev = record { session = s; num = 1 }; at = k } }

abbrev sets : RegChange
sets = record { rev = record { session = 2; num = 1 }; in_new = false; held = Some (node 1 0); how = Stay; clear = true; fill = Some (node 2 0); fill_new = true }

two : (m n : ℕ) (j k : ℕ) → (m ≡ n → ⊥) → Some (node m j) ≢ Some (node n k)
two m n j k h e = h (ap (λ (o : Option NodeId). option_map_or (λ (n : NodeId). n.0.rev.session) o 0) e)

in_form : IsNormalRegChange sets
in_form = record {
  nobody = λ e. cc;
  put = λ e. cc;
  filled = (refl, two 1 2 0 0 (λ e. omega (arith, e)), λ e. let q : ◌≡◌ {A = ℕ} 2 0 = ap (λ (n : NodeId). n.0.rev.session) e in omega (arith, q));
  made = λ e. (node 2 0, refl, refl);
  empty = λ e. cc;
}

not_root : (s k : ℕ) → (s ≡ 0 → ⊥) → Some (node s k) ≢ Some root
not_root s k h e = h (ap (λ (o : Option NodeId). option_map_or (λ (n : NodeId). n.0.rev.session) o 0) e)

-- the part fits elsewhere
fits_at : (d : RegHeld) → RegCanHold d → IfSome d.node (λ n. ((told sets).makes n ≡ false) × ((told sets).makes (told sets).field.node ≡ false)) → RegFits (told sets) d
fits_at d h o =
    let w = told_fits sets in_form (not_root 1 0 (λ e. omega (arith, e))) in
    record { content = h; cleared = w.cleared; put_here = w.put_here; root_stays = w.root_stays; made = w.made; old = o }

old : IfSome (Some (node 1 1)) (λ n. ((told sets).makes n ≡ false) × ((told sets).makes (told sets).field.node ≡ false))
unfolding same_node
old = (refl, refl)

keeps : RegKeeps (told sets) (holding (Some (node 1 0))) (holding (Some (node 1 1)))
unfolding same_node
keeps a e = cc

pub stands : (n : RegPart) × (m : NodeId → Bool) × (k : NodeId → Bool) × (c : RegHeld) × (d : RegHeld) × (e : RegHeld)
    × (sets ≡ reg_change_of n c) × RegLeadsOver c d (record { before = Some (node 1 0); after = Some (node 1 1) }) × RegLeadsOver d e (record { before = Some (node 1 1); after = None })
    × RegFits n c × RegFits n d × RegFits n e × RegKeeps n c d × RegKeeps n d e × RegCanHold (reg_carried n false d) × RegCanHold (reg_carried n false e)
stands =
    let a : Some (node 1 0) ≢ Some root = not_root 1 0 (λ e. omega (arith, e)) in
    let b : Some (node 1 1) ≢ Some root = not_root 1 1 (λ e. omega (arith, e)) in
    let q : Some (node 2 0) ≢ Some root = not_root 2 0 (λ e. omega (arith, e)) in (
      told sets,
      (λ n. false),
      (λ n. false),
      holding (Some (node 1 0)),
      holding (Some (node 1 1)),
      holding None,
      told_is sets in_form a,
      record { before = a; after = b; swap = refl },
      record { before = b; after = (λ e. cc); swap = refl },
      told_fits sets in_form a,
      fits_at (holding (Some (node 1 1))) b old,
      fits_at (holding None) (λ e. cc) tt,
      keeps,
      tt,
      q,
      q,
    )
