-- Commits that are alike, told one after the other: one void list, and one list of texts; and the commit of a revision is one.
use Rattle.std.proofs.Common.{◌≡◌, ◌≢◌, inl, inr, ℕ, List, [], ◌∷◌, ◌++◌, refl, sym, ap, ◌∙◌, subst, cond, unwrap_or}
use Rattle.serde_json.specs.Written.{compact_text}
use Rattle.st_ids.specs.Listing.{AreDistinct, Has}
use Rattle.st_ids.specs.Root.{opening}
use Rattle.st_ids.specs.declared.names.Rev.{Rev}
use Rattle.st_marks.specs.declared.changes.Change.{Change}
use Rattle.st_marks.specs.declared.intents.Intent.{Intent}
use Rattle.st_marks.specs.declared.verdicts.Verdict.{Verdict}
use Rattle.st_marks.specs.Back.{IsBack}
use Rattle.st_marks.specs.Document.{Document, last_of, revs}
use Rattle.st_marks.specs.Embedding.{IsEmbedding}
use Rattle.st_marks.specs.Verdict.{IsVerdict, carried_document}
use Rattle.st_marks.proofs.Members.{all-has, append_right}
use Rattle.st_marks.proofs.OneVerdict.{one_verdict}
use Rattle.st_marks.proofs.Unique.{one_embedding}
use Rattle.st_change_codec.specs.Changes.{change_data}
use Rattle.st_lists.specs.Voids.{is_void}
use Rattle.st_lists.specs.Undoing.{IsAt, IsUndoing}
use Rattle.st_world.specs.Texts.{AreTextsOf, IsTextOf}
use Rattle.st_lists.specs.Voids.{AreVoid}
use Rattle.st_same_laws.proofs.JoinsAndWaysBack.{backs_say}
use Rattle.st_same_laws.proofs.OneChange.{embedding_same}
use Rattle.st_same_laws.proofs.CarriedDocuments.{carried_same, verdict_same}
use Rattle.st_one_laws.specs.AlikeWorlds.{IsAlike, OneByOne}
use Rattle.st_one_laws.proofs.AlikeIntents.{alike_says, lead_alike, rev_alike}

verdict_alike : (D : Document) (N M : Intent) (v w : Verdict) → IsAlike N M → IsVerdict D N v → IsVerdict D M w → v ≡ w
verdict_alike D N M v w a i j = one_verdict D M v w (verdict_same D N M v (alike_says N M a) i) j

carried_alike : (D : Document) (N M : Intent) (v w : Verdict) → IsAlike N M → v ≡ w → carried_document v D N ≡ carried_document w D M
carried_alike D N M v w a e = carried_same D N M v (alike_says N M a) ∙ ap (λ x. carried_document x D M) e

pub void_alike : (D : Document) (Ns Ms : List Intent) (rs qs : List Rev) → OneByOne IsAlike Ns Ms → AreVoid D Ns rs → AreVoid D Ms qs → rs ≡ qs
void_alike D [] [] rs qs o a b = a ∙ sym b
void_alike D [] (M ∷ Ms) rs qs o a b = absurd o
void_alike D (N ∷ Ns) [] rs qs o a b = absurd o
void_alike D (N ∷ Ns) (M ∷ Ms) rs qs o (v, rest, is, more, e) (w, last, was, after, f) =
    let same : v ≡ w = verdict_alike D N M v w o.0 is was in
    let now = carried_alike D N M v w o.0 same in
    let rests : rest ≡ last = void_alike (carried_document w D M) Ns Ms rest last o.1 (subst (λ (E : Document). AreVoid E Ns rest) now more) after in
    e ∙ (λ i. cond (is_void (same i)) (rev_alike N M o.0 i ∷ rests i) (rests i)) ∙ sym f

change_alike : (D : Document) (N M : Intent) (C K : Change) → IsAlike N M → IsEmbedding D N C → IsEmbedding D M K → C ≡ K
change_alike D N M C K (inl e) i j = one_embedding D M C K (subst (λ (X : Intent). IsEmbedding D X C) e i) j
change_alike D N M C K (inr s) i j = one_embedding D M C K (embedding_same D N M C s.0 s.1 s.2 i) j

text_alike : (D : Document) (N M : Intent) (t u : List ℕ) → IsAlike N M → IsTextOf D N t → IsTextOf D M u → t ≡ u
text_alike D N M t u a (C, i, e) (K, j, f) = e ∙ ap (λ x. compact_text (change_data x)) (change_alike D N M C K a i j) ∙ sym f

pub texts_alike : (D : Document) (Ns Ms : List Intent) (ts us : List (List ℕ)) → OneByOne IsAlike Ns Ms → AreTextsOf D Ns ts → AreTextsOf D Ms us → ts ≡ us
texts_alike D [] [] ts us o a b = a ∙ sym b
texts_alike D [] (M ∷ Ms) ts us o a b = absurd o
texts_alike D (N ∷ Ns) [] ts us o a b = absurd o
texts_alike D (N ∷ Ns) (M ∷ Ms) ts us o (t, v, rest, told, is, more, e) (u, w, last, said, was, after, f) =
    let same : v ≡ w = verdict_alike D N M v w o.0 is was in
    let now = carried_alike D N M v w o.0 same in
    let rests : rest ≡ last = texts_alike (carried_document w D M) Ns Ms rest last o.1 (subst (λ (E : Document). AreTextsOf E Ns rest) now more) after in
    e ∙ (λ i. text_alike D N M t u o.0 told said i ∷ rests i) ∙ sym f

-- ## The commit of a revision

other_there : (Ns Ms : List Intent) (N : Intent) → OneByOne IsAlike Ns Ms → Has Ns N → (M : Intent) × Has Ms M × (N.rev ≡ M.rev)
other_there [] Ms N o h = absurd h
other_there (X ∷ Ns) [] N o h = absurd o
other_there (X ∷ Ns) (Y ∷ Ms) N o (inl e) = (Y, inl refl, ap (λ (x : Intent). x.rev) (sym e) ∙ rev_alike X Y o.0)
other_there (X ∷ Ns) (Y ∷ Ms) N o (inr h) = let r = other_there Ns Ms N o.1 h in (r.0, inr r.1, r.2)

split_alike : (f g : List Intent) (N M : Intent) (r q : List Intent) (rev : Rev) → OneByOne IsAlike (f ++ N ∷ r) (g ++ M ∷ q) → N.rev ≡ rev → M.rev ≡ rev → AreDistinct (λ (X : Intent). X.rev) (g ++ M ∷ q)
    → OneByOne IsAlike f g × IsAlike N M
split_alike [] [] N M r q rev o n m d = (tt, o.0)
split_alike [] (Y ∷ g) N M r q rev o n m d =
    absurd (all-has (λ (X : Intent). X.rev ≢ Y.rev) (g ++ M ∷ q) M d.0 (append_right g (M ∷ q) M (inl refl)) (m ∙ sym n ∙ rev_alike N Y o.0))
split_alike (X ∷ f) [] N M r q rev o n m d =
    let other = other_there (f ++ N ∷ r) q N o.1 (append_right f (N ∷ r) N (inl refl)) in
    absurd (all-has (λ (Z : Intent). Z.rev ≢ M.rev) q other.0 d.0 other.1 (sym other.2 ∙ n ∙ sym m))
split_alike (X ∷ f) (Y ∷ g) N M r q rev o n m d = let s = split_alike f g N M r q rev o.1 n m d.1 in ((o.0, s.0), s.1)

-- one commit has the revision, and it has one document before it and one verdict
pub at_alike : (O : Document) (Ns Ms : List Intent) (rev : Rev) (N M : Intent) (D E : Document) (v w : Verdict) → OneByOne IsAlike Ns Ms → AreDistinct (λ (X : Intent). X.rev) Ms → IsAt O Ns rev N D v → IsAt O Ms rev M E w
    → IsAlike N M × (D ≡ E) × (v ≡ w)
at_alike O Ns Ms rev N M D E v w o d a b =
    let both : OneByOne IsAlike (a.front ++ N ∷ a.rest) (b.front ++ M ∷ b.rest) = subst (λ l. OneByOne IsAlike l (b.front ++ M ∷ b.rest)) a.list (subst (λ l. OneByOne IsAlike Ns l) b.list o) in
    let s = split_alike a.front b.front N M a.rest b.rest rev both a.named b.named (subst (AreDistinct (λ (X : Intent). X.rev)) b.list d) in
    let same : D ≡ E = lead_alike O D E a.front b.front s.0 a.before b.before in
    (s.1, same, verdict_alike E N M v w s.1 (subst (λ (F : Document). IsVerdict F N v) same a.verdict) b.verdict)

-- and so one way back
pub undoing_alike : (O : Document) (Ns Ms : List Intent) (rev fresh new : Rev) (B C : Intent) → OneByOne IsAlike Ns Ms → AreDistinct (λ (X : Intent). X.rev) Ms → fresh ≡ new → IsUndoing O Ns rev fresh B → IsUndoing O Ms rev new C → IsAlike B C
undoing_alike O Ns Ms rev fresh new B C o d e a b =
    let at = at_alike O Ns Ms rev a.commit b.commit a.before b.before Verdict.Sound Verdict.Sound o d a.is_at b.is_at in
    let before : a.before ≡ b.before = at.1 in
    let after : a.after ≡ b.after = lead_alike O a.after b.after Ns Ms o a.now b.now in
    let carried : carried_document Verdict.Sound a.before a.commit ≡ carried_document Verdict.Sound b.before b.commit =
    ap (λ (F : Document). carried_document Verdict.Sound F a.commit) before ∙ carried_alike b.before a.commit b.commit Verdict.Sound Verdict.Sound at.0 refl in
    let under : unwrap_or (last_of (revs a.after.schemas)) opening ≡ unwrap_or (last_of (revs b.after.schemas)) opening = ap (λ (F : Document). unwrap_or (last_of (revs F.schemas)) opening) after in
    let back : IsBack b.before (carried_document Verdict.Sound b.before b.commit) new (unwrap_or (last_of (revs b.after.schemas)) opening) B =
    subst (λ (X : Type 0). X) (λ i. IsBack (before i) (carried i) (e i) (under i) B) a.back in
    inr (back.itself, b.back.itself, backs_say b.before (carried_document Verdict.Sound b.before b.commit) new (unwrap_or (last_of (revs b.after.schemas)) opening) B C back b.back)
