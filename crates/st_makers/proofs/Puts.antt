-- Homes as puts are gone through, from the last.
use Rattle.std.proofs.Common.{◌≡◌, ℕ, ◌+◌, ◌<◌, Bool, true, false, cond, ◌&&◌, List, [], ◌∷◌, length, drop, get_or, Option, Some, refl, sym, ap, ◌∙◌, option_map, unwrap_or}
use Rattle.std.specs.List.{find}
use Rattle.st_ids.specs.Order.{same_node, same_rev}
use Rattle.st_ids.specs.declared.names.FieldId.{FieldId}
use Rattle.st_ids.specs.declared.names.NodeId.{NodeId}
use Rattle.st_ids.specs.declared.names.Rev.{Rev}
use Rattle.st_ids.proofs.Orders.{same_node-true}
use Rattle.st_marks.specs.Intent.{register_of}
use Rattle.st_marks.specs.declared.intents.Put.{Put}
use Rattle.st_doc.proofs.Look.{drop_one}
use Rattle.st_makers.specs.inside.Homes.{home_after}

-- what the first item says, if it passes the test, and else what the others say
first_says : {A B : Type 0} (f : A → B) (b : Bool) (x : A) (o : Option A) (d : B) → unwrap_or (option_map f (cond b (Some x) o)) d ≡ cond b (f x) (unwrap_or (option_map f o) d)
first_says f true x o d = refl
first_says f false x o d = refl

both : {A : Type 0} (a c b : Bool) (x rest before : A) → (b ≡ true → c ≡ a) → cond a (cond b x rest) before ≡ cond (c && b) x (cond a rest before)
both a c true x rest before same = rw (same refl) (each a)
  where
    each : (a : Bool) → cond a x before ≡ cond (a && true) x (cond a rest before)
    each true = refl
    each false = refl
both a true false x rest before same = refl
both a false false x rest before same = refl

-- one more put, before the others
home_more : (rev : Rev) (p : Put) (ps : List Put) (before : Option FieldId) (n : NodeId)
    → home_after rev (p ∷ ps) before n ≡ cond (same_rev rev p.node.0.rev && same_node p.node n) (register_of p.to) (home_after rev ps before n)
home_more rev p ps before n =
    let found = find (λ (p : Put). same_node p.node n) ps in
    ap (λ o. cond (same_rev rev n.0.rev) o before) (first_says (λ (p : Put). register_of p.to) (same_node p.node n) p found before)
    ∙ both (same_rev rev n.0.rev) (same_rev rev p.node.0.rev) (same_node p.node n) (register_of p.to) (unwrap_or (option_map (λ (p : Put). register_of p.to) found) before) before
    (λ t. ap (λ (m : NodeId). same_rev rev m.0.rev) (same_node-true p.node n t))

pub put_more : (rev : Rev) (puts : List Put) (i j : ℕ) (d p : Put) (initial before now : Option FieldId) (n : NodeId) → i + 1 ≡ j → i < length puts → get_or puts i d ≡ p
    → before ≡ home_after rev (drop j puts) initial n → now ≡ cond (same_rev rev p.node.0.rev && same_node p.node n) (register_of p.to) before
    → now ≡ home_after rev (drop i puts) initial n
put_more rev puts i j d p initial before now n next within at so_far said =
    said ∙ ap (λ o. cond (same_rev rev p.node.0.rev && same_node p.node n) (register_of p.to) o) (so_far ∙ ap (λ k. home_after rev (drop k puts) initial n) (sym next))
    ∙ sym (home_more rev p (drop (i + 1) puts) initial n) ∙ ap (λ ps. home_after rev ps initial n) (sym (drop_one puts i d p within at))

-- nothing is said by no put
pub home_same : (rev : Rev) (before : Option FieldId) (n : NodeId) → before ≡ home_after rev [] before n
home_same rev before n = each (same_rev rev n.0.rev)
  where
    each : (b : Bool) → before ≡ cond b before before
    each true = refl
    each false = refl
