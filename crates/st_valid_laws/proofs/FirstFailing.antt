-- Of tests that are made in an order one at most is the first that fails, and there is none exactly where all are passed.
use Rattle.std.proofs.Common.{◌≡◌, Bool, true, false, List, [], ◌∷◌, refl, sym, ◌∙◌, ◌⊎◌, inl, inr}
use Rattle.st_ids.specs.Listing.{Has}
use Rattle.st_marks.specs.Document.{Document}
use Rattle.st_lists.specs.declared.lists.Entry.{Entry}
use Rattle.st_valid_laws.specs.Messages.{IsFirstFailing, IsRefusedFor, IsValid, Passes, in_order}
use Rattle.st_valid.specs.Ids.{has_new_revision, has_next_ids}
use Rattle.st_valid.specs.Order.{is_in_order}
use Rattle.st_valid.specs.References.{is_in_window, is_no_step_back}
use Rattle.st_valid.specs.Room.{has_room}
use Rattle.st_valid.specs.Sessions.{is_of_session}
use Rattle.st_valid.specs.declared.message.Message.{Message}
use Rattle.st_valid.specs.declared.message.ReplayCause.{ReplayCause}
use Rattle.st_valid.specs.declared.message.ReplayCause.TheVariants as cause

-- ## Any tests

module _ (Pass : ReplayCause → Type 0) where
  one_failing : (tests : List ReplayCause) (c d : ReplayCause) → IsFirstFailing Pass tests c → IsFirstFailing Pass tests d → c ≡ d
  one_failing [] c d f g = absurd f
  one_failing (t ∷ ts) c d (inl f) (inl g) = f.0 ∙ sym g.0
  one_failing (t ∷ ts) c d (inl f) (inr g) = absurd (f.1 g.0)
  one_failing (t ∷ ts) c d (inr f) (inl g) = absurd (g.1 f.0)
  one_failing (t ∷ ts) c d (inr f) (inr g) = one_failing ts c d f.1 g.1

  it_fails : (tests : List ReplayCause) (c : ReplayCause) → IsFirstFailing Pass tests c → ((t : ReplayCause) → Pass t) → ⊥
  it_fails [] c f all = f
  it_fails (t ∷ ts) c (inl f) all = f.1 (all t)
  it_fails (t ∷ ts) c (inr f) all = it_fails ts c f.1 all

  all_or_one : (tests : List ReplayCause) → ((t : ReplayCause) → Pass t ⊎ (Pass t → ⊥)) → ((t : ReplayCause) → Has tests t → Pass t) ⊎ ((c : ReplayCause) × IsFirstFailing Pass tests c)
  all_or_one [] decide = inl (λ t h. absurd h)
  all_or_one (t ∷ ts) decide = go (decide t) (all_or_one ts decide)
    where
      go : (Pass t ⊎ (Pass t → ⊥)) → (((u : ReplayCause) → Has ts u → Pass u) ⊎ ((c : ReplayCause) × IsFirstFailing Pass ts c))
          → ((u : ReplayCause) → Has (t ∷ ts) u → Pass u) ⊎ ((c : ReplayCause) × IsFirstFailing Pass (t ∷ ts) c)
      go (inr fails) more = inr (t, inl (refl, fails))
      go (inl pass) (inr f) = inr (f.0, inr (pass, f.1))
      go (inl pass) (inl all) = inl each
        where
          each : (u : ReplayCause) → Has (t ∷ ts) u → Pass u
          each u (inl e) = rw (sym e) pass
          each u (inr h) = all u h

-- ## Those of a message

true_or_not : (b : Bool) → (b ≡ true) ⊎ (b ≡ true → ⊥)
true_or_not true = inl refl
true_or_not false = inr (λ e. cc)

-- each test is among those in order
each_in_order : (c : ReplayCause) → Has in_order c
each_in_order cause.Shape = inl refl
each_in_order cause.Sequence = inr (inl refl)
each_in_order cause.Session = inr (inr (inl refl))
each_in_order cause.Window = inr (inr (inr (inl refl)))
each_in_order cause.RefBack = inr (inr (inr (inr (inl refl))))
each_in_order cause.Ids = inr (inr (inr (inr (inr (inl refl)))))
each_in_order cause.Revision = inr (inr (inr (inr (inr (inr (inl refl))))))
each_in_order cause.Limit = inr (inr (inr (inr (inr (inr (inr (inl refl)))))))
each_in_order cause.Context = inr (inr (inr (inr (inr (inr (inr (inr (inl refl))))))))
each_in_order cause.Schema = inr (inr (inr (inr (inr (inr (inr (inr (inr (inl refl)))))))))

module _ (O : Document) (log : List Entry) (m : Message) where
  pub one_cause : (c d : ReplayCause) → IsRefusedFor O log m c → IsRefusedFor O log m d → c ≡ d
  one_cause c d f g = one_failing (Passes O log m) in_order c d f g

  pub not_both : (c : ReplayCause) → IsRefusedFor O log m c → IsValid O log m → ⊥
  not_both c f valid = it_fails (Passes O log m) in_order c f valid

  abbrev Decided : ReplayCause → Type 0
  Decided t = Passes O log m t ⊎ (Passes O log m t → ⊥)

  -- the tests that read the log alone, with those of the context and of the schema
  each_decided : Decided cause.Context → Decided cause.Schema → (t : ReplayCause) → Decided t
  each_decided context schema cause.Shape = inl tt
  each_decided context schema cause.Sequence = true_or_not (is_in_order log m)
  each_decided context schema cause.Session = true_or_not (is_of_session log m)
  each_decided context schema cause.Window = true_or_not (is_in_window log m)
  each_decided context schema cause.RefBack = true_or_not (is_no_step_back log m)
  each_decided context schema cause.Ids = true_or_not (has_next_ids log m)
  each_decided context schema cause.Revision = true_or_not (has_new_revision log m)
  each_decided context schema cause.Limit = true_or_not (has_room log m)
  each_decided context schema cause.Context = context
  each_decided context schema cause.Schema = schema

  pub valid_or_refused : Decided cause.Context → Decided cause.Schema → IsValid O log m ⊎ ((c : ReplayCause) × IsRefusedFor O log m c)
  valid_or_refused context schema = elim (all_or_one (Passes O log m) in_order (each_decided context schema)) [
    | inl all ↦ inl (λ t. all t (each_in_order t))
    | inr one ↦ inr one
  ]
