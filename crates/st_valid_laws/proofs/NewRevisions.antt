-- Commits with new revisions, to which one more comes.
use Rattle.std.proofs.Common.{◌≢◌, List, [], ◌∷◌, ◌++◌, sym, ap, ◌∙◌, subst, ◌⊎◌, inl, inr}
use Rattle.st_ids.specs.Listing.{Has}
use Rattle.st_ids.specs.declared.names.Rev.{Rev}
use Rattle.st_marks.specs.declared.intents.Intent.{Intent}
use Rattle.st_marks.proofs.Members.{append_left, append_right, distinct-append, has-append, map-has}
use Rattle.st_log_laws.specs.Names.{HaveNewRevisions, revisions}

pub new_more : (rs : List Rev) (Ns : List Intent) (N : Intent) → HaveNewRevisions rs Ns → (Has (revisions Ns ++ rs) N.rev → ⊥) → HaveNewRevisions rs (Ns ++ N ∷ [])
new_more rs Ns N h fresh = record {
  once = distinct-append (λ (M : Intent). M.rev) Ns (N ∷ []) h.once (tt, tt) (λ M K i j e. last M K i j e);
  new = λ M i. go M (has-append Ns (N ∷ []) M i);
}
  where
    last : (M K : Intent) → Has Ns M → Has (N ∷ []) K → K.rev ≢ M.rev
    last M K i (inl e) same = fresh (append_left (revisions Ns) rs N.rev (subst (Has (revisions Ns)) (sym same ∙ ap (λ (X : Intent). X.rev) (sym e)) (map-has (λ (X : Intent). X.rev) Ns M i)))
    last M K i (inr j) same = absurd j

    go : (M : Intent) → Has Ns M ⊎ Has (N ∷ []) M → Has rs M.rev → ⊥
    go M (inl i) k = h.new M i k
    go M (inr (inl e)) k = fresh (append_right (revisions Ns) rs N.rev (subst (Has rs) (ap (λ (X : Intent). X.rev) (sym e)) k))
    go M (inr (inr j)) k = absurd j
