-- Lists of intents fit other documents too: those that have the names, after another intent, after more intents.
use Rattle.std.proofs.Common.{◌≡◌, List, [], ◌∷◌, ◌++◌, refl, sym, subst, inl, inr}
use Rattle.st_ids.specs.Listing.{Has}
use Rattle.st_ids.specs.declared.names.Rev.{Rev}
use Rattle.st_marks.specs.declared.intents.Intent.{Intent}
use Rattle.st_marks.specs.Document.{Document, IsSoundInForm}
use Rattle.st_marks.specs.Extends.{no_more as none_more, item_gained, item_kept}
use Rattle.st_marks.specs.Intent.{Fits}
use Rattle.st_marks.specs.Verdict.{carried_document}
use Rattle.st_marks.specs.Run.{Run, done, next}
use Rattle.st_marks.proofs.Members.{all-has}
use Rattle.st_marks.proofs.OneVerdict.{carried_extends}
use Rattle.st_log_laws.specs.Names.{HasNames, IsMadeUnder, HaveNewRevisions, revisions}
use Rattle.st_log_laws.specs.Turns.{FitInTurn, IsSublist, HasRoom}
use Rattle.st_log_laws.proofs.Names.{names_itself, names_on, names_stay, names_beside, made_after, fits_beside}
use Rattle.st_log_laws.proofs.Turns.{front, rest, then, turn_extends, has_run, made_in_run}
use Rattle.st_log_laws.proofs.Shorter.{new_after}
use Rattle.st_log_laws.proofs.Room.{short_after, room_after, room_in_run}

-- the revisions of the rest are new after the first
new_rest : (rs : List Rev) (N : Intent) (Ns : List Intent) → HaveNewRevisions rs (N ∷ Ns) → HaveNewRevisions (N.rev ∷ rs) Ns
new_rest rs N Ns h = record {
  once = h.once.1;
  new = λ M i j. elim j [ inl e ↦ all-has (λ (M : Intent). M.rev ≡ N.rev → ⊥) Ns M h.once.0 i (sym e) | inr k ↦ h.new M (inr i) k ];
}

beside_run : {D F : Document} {Ns : List Intent} → Run D Ns F → (E : Document) (rs : List Rev) → HasNames D E → IsSoundInForm D → IsSoundInForm E → FitInTurn D Ns → IsMadeUnder rs E → HaveNewRevisions rs Ns → HasRoom E Ns → FitInTurn E Ns
beside_run done E rs h s t f m new room = tt
beside_run (next {D} {N = N} {Ns} v a r) E rs h s t f m new room =
    let fits = fits_beside D E N h s t f.0 rs m (new.new N (inl refl)) in
    let short = short_after E N t fits Ns room in (
      fits,
      short,
      λ w b. beside_run r (carried_document w E N) (N.rev ∷ rs) (names_beside D E N v w h fits)
          (carried_extends D N v s f.0 f.1 a).after (carried_extends E N w t fits short b).after
          (f.2 v a) (made_after rs E N w fits m) (new_rest rs N Ns new) (room_after E N t fits Ns w room),
    )

pub all_fit_beside : (rs : List Rev) (D E : Document) (Ns : List Intent) → HasNames D E → IsSoundInForm D → IsSoundInForm E → FitInTurn D Ns → IsMadeUnder rs E → HaveNewRevisions rs Ns → HasRoom E Ns → FitInTurn E Ns
all_fit_beside rs D E Ns h s t f m new room = beside_run (has_run Ns D s f).1 E rs h s t f m new room

pub another_first : (rs : List Rev) (D : Document) (N : Intent) (Ns : List Intent) → IsSoundInForm D → IsMadeUnder rs D → FitInTurn D (N ∷ []) → FitInTurn D Ns → HaveNewRevisions rs (N ∷ Ns) → HasRoom D (N ∷ Ns) → FitInTurn D (N ∷ Ns)
another_first rs D N Ns s m f g new room = (
  f.0,
  f.1,
  λ v a. all_fit_beside (N.rev ∷ rs) D (carried_document v D N) Ns (names_stay D N v) s (carried_extends D N v s f.0 f.1 a).after g
      (made_after rs D N v f.0 m) (new_rest rs N Ns new) (room_after D N s f.0 Ns v room),
)

pub another_later : (rs : List Rev) (D : Document) (Ns : List Intent) (N : Intent) (Ms : List Intent) → IsSoundInForm D → IsMadeUnder rs D → FitInTurn D (Ns ++ N ∷ []) → FitInTurn D (Ns ++ Ms)
    → HaveNewRevisions rs (Ns ++ N ∷ Ms) → HasRoom D (Ns ++ N ∷ Ms) → FitInTurn D (Ns ++ N ∷ Ms)
another_later rs D Ns N Ms s m f g new room =
    let h = front Ns (N ∷ []) D f in
    then Ns (N ∷ Ms) D h (λ E r. another_first (revisions Ns ++ rs) E N Ms (turn_extends s h r).after (made_in_run rs h r m) (rest (N ∷ []) r f) (rest Ms r g)
    (new_after rs Ns (N ∷ Ms) new) (room_in_run (N ∷ Ms) s h r room))

pub one_fits : (D : Document) (N : Intent) → IsSoundInForm D → Fits D N → HasRoom D (N ∷ []) → FitInTurn D (N ∷ [])
one_fits D N s f room = (f, short_after D N s f [] room, λ v a. tt)

-- ## After a longer list

names_in_longer : {As Bs : List Intent} → IsSublist As Bs → (D C : Document) {E F : Document} → Run D As E → Run C Bs F → HasNames D C → FitInTurn C Bs → HasNames E F
names_in_longer none_more D C done done h f = h
names_in_longer (item_gained {y} g) D C r (next w b q) h f = names_in_longer g D (carried_document w C y) r q (names_on D C (carried_document w C y) h (names_stay C y w)) (f.2 w b)
names_in_longer (item_kept {x} {y} e g) D C (next v a r) (next w b q) h f =
    names_in_longer g (carried_document v D x) (carried_document w C y) r q
    (subst (λ z. HasNames (carried_document v D z) (carried_document w C y)) (sym e) (names_beside D C y v w h f.0)) (f.2 w b)

pub names_later : {As Bs : List Intent} (D : Document) {E F : Document} → IsSublist As Bs → FitInTurn D Bs → Run D As E → Run D Bs F → HasNames E F
names_later D g f r q = names_in_longer g D D r q (names_itself D) f

pub later_fits : (rs : List Rev) (D E : Document) (As Bs : List Intent) (N : Intent) → IsSoundInForm D → IsMadeUnder rs D → IsSublist As Bs → FitInTurn D As → FitInTurn D Bs → Run D As E → Fits E N
    → (Has (revisions Bs ++ rs) N.rev → ⊥) → HasRoom D (Bs ++ N ∷ []) → FitInTurn D (Bs ++ N ∷ [])
later_fits rs D E As Bs N s m g f h r fits new room = then Bs (N ∷ []) D h last
  where
    last : (F : Document) → Run D Bs F → FitInTurn F (N ∷ [])
    last F q =
        let x = turn_extends s f r in
        let y = turn_extends s h q in
        let there = fits_beside E F N (names_later D g h r q) x.after y.after fits (revisions Bs ++ rs) (made_in_run rs h q m) new in
        one_fits F N y.after there (room_in_run (N ∷ []) s h q room)

-- a list that fits after some intents fits after a longer list
pub all_fit_later : (rs : List Rev) (D : Document) (As Bs Ns : List Intent) → IsSoundInForm D → IsMadeUnder rs D → IsSublist As Bs
    → FitInTurn D (As ++ Ns) → FitInTurn D Bs → HaveNewRevisions rs (Bs ++ Ns) → HasRoom D (Bs ++ Ns) → FitInTurn D (Bs ++ Ns)
all_fit_later rs D As Bs Ns s m g f h new room = then Bs Ns D h last
  where
    fit : FitInTurn D As
    fit = front As Ns D f

    last : (F : Document) → Run D Bs F → FitInTurn F Ns
    last F q =
        let e = has_run As D s fit in
        all_fit_beside (revisions Bs ++ rs) e.0 F Ns (names_later D g h e.1 q) (turn_extends s fit e.1).after (turn_extends s h q).after
        (rest Ns e.1 f) (made_in_run rs h q m) (new_after rs Bs Ns new) (room_in_run Ns s h q room)
