-- The first test that a message fails, of those that read the log alone, is the first of all that it fails.
use Rattle.std.proofs.Common.{◌≡◌, ◌≢◌, Bool, true, false, cond, List, [], ◌∷◌, None, Some, refl, inl, inr}
use Rattle.st_lemmas.proofs.Bools.{true-false}
use Rattle.st_marks.specs.Document.{Document}
use Rattle.st_lists.specs.declared.lists.Entry.{Entry}
use Rattle.st_valid.specs.Ids.{has_new_revision, has_next_ids}
use Rattle.st_valid.specs.Order.{is_in_order}
use Rattle.st_valid.specs.References.{is_in_window, is_no_step_back}
use Rattle.st_valid.specs.Refusals.{refused_by_log, refused_for_reference, refused_for_revision}
use Rattle.st_valid.specs.Room.{has_room}
use Rattle.st_valid.specs.Sessions.{is_of_session}
use Rattle.st_valid.specs.declared.message.Message.{Message}
use Rattle.st_valid.specs.declared.message.ReplayCause.{ReplayCause}
use Rattle.st_valid.specs.declared.message.ReplayCause.TheVariants as cause
use Rattle.st_valid_laws.specs.Messages.{IsFirstFailing, IsRefusedFor, Passes}

same : {x y : ReplayCause} → Some x ≡ Some y → y ≡ x
same e = cc

module _ (O : Document) (log : List Entry) (m : Message) where
  abbrev after_ids : List ReplayCause
  after_ids = cause.Revision ∷ cause.Limit ∷ cause.Context ∷ cause.Schema ∷ []

  abbrev after_window : List ReplayCause
  after_window = cause.RefBack ∷ cause.Ids ∷ after_ids

  by_revision : (c : ReplayCause) → refused_for_revision log m ≡ Some c → IsFirstFailing (Passes O log m) after_ids c
  by_revision c h = go (has_new_revision log m) (has_room log m) refl refl h
    where
      go : (a b : Bool) → has_new_revision log m ≡ a → has_room log m ≡ b → cond a (cond b None (Some cause.Limit)) (Some cause.Revision) ≡ Some c → IsFirstFailing (Passes O log m) after_ids c
      go false b e f h = inl (same h, λ p. true-false p e)
      go true false e f h = inr (e, inl (same h, λ p. true-false p f))
      go true true e f h = cc

  by_reference : (c : ReplayCause) → refused_for_reference log m ≡ Some c → IsFirstFailing (Passes O log m) after_window c
  by_reference c h = go (is_no_step_back log m) (has_next_ids log m) refl refl h
    where
      go : (a b : Bool) → is_no_step_back log m ≡ a → has_next_ids log m ≡ b → cond a (cond b (refused_for_revision log m) (Some cause.Ids)) (Some cause.RefBack) ≡ Some c → IsFirstFailing (Passes O log m) after_window c
      go false b e f h = inl (same h, λ p. true-false p e)
      go true false e f h = inr (e, inl (same h, λ p. true-false p f))
      go true true e f h = inr (e, inr (f, by_revision c h))

  pub refused : (c : ReplayCause) → refused_by_log log m ≡ Some c → IsRefusedFor O log m c
  refused c h = inr (tt, go (is_in_order log m) (is_of_session log m) (is_in_window log m) refl refl refl h)
    where
      go : (a b w : Bool) → is_in_order log m ≡ a → is_of_session log m ≡ b → is_in_window log m ≡ w
          → cond a (cond b (cond w (refused_for_reference log m) (Some cause.Window)) (Some cause.Session)) (Some cause.Sequence) ≡ Some c
          → IsFirstFailing (Passes O log m) (cause.Sequence ∷ cause.Session ∷ cause.Window ∷ after_window) c
      go false b w e f g h = inl (same h, λ p. true-false p e)
      go true false w e f g h = inr (e, inl (same h, λ p. true-false p f))
      go true true false e f g h = inr (e, inr (f, inl (same h, λ p. true-false p g)))
      go true true true e f g h = inr (e, inr (f, inr (g, by_reference c h)))

  -- ## Where none of them fails

  record AllPass : Type 0 where
    order : is_in_order log m ≡ true
    session : is_of_session log m ≡ true
    window : is_in_window log m ≡ true
    back : is_no_step_back log m ≡ true
    ids : has_next_ids log m ≡ true
    revision : has_new_revision log m ≡ true
    room : has_room log m ≡ true

  all_pass : refused_by_log log m ≡ None → AllPass
  all_pass h = go (is_in_order log m) (is_of_session log m) (is_in_window log m) (is_no_step_back log m) (has_next_ids log m) (has_new_revision log m) (has_room log m) refl refl refl refl refl refl refl h
    where
      go : (a b w k i r t : Bool) → is_in_order log m ≡ a → is_of_session log m ≡ b → is_in_window log m ≡ w → is_no_step_back log m ≡ k → has_next_ids log m ≡ i → has_new_revision log m ≡ r → has_room log m ≡ t
          → cond a (cond b (cond w (cond k (cond i (cond r (cond t None (Some cause.Limit)) (Some cause.Revision)) (Some cause.Ids)) (Some cause.RefBack)) (Some cause.Window)) (Some cause.Session)) (Some cause.Sequence) ≡ None
          → AllPass
      go false b w k i r t ea eb ew ek ei er et h = cc
      go true false w k i r t ea eb ew ek ei er et h = cc
      go true true false k i r t ea eb ew ek ei er et h = cc
      go true true true false i r t ea eb ew ek ei er et h = cc
      go true true true true false r t ea eb ew ek ei er et h = cc
      go true true true true true false t ea eb ew ek ei er et h = cc
      go true true true true true true false ea eb ew ek ei er et h = cc
      go true true true true true true true ea eb ew ek ei er et h = record { order = ea; session = eb; window = ew; back = ek; ids = ei; revision = er; room = et }

  pub passed : refused_by_log log m ≡ None → (t : ReplayCause) → t ≢ cause.Context → t ≢ cause.Schema → Passes O log m t
  passed h cause.Shape c s = tt
  passed h cause.Sequence c s = (all_pass h).order
  passed h cause.Session c s = (all_pass h).session
  passed h cause.Window c s = (all_pass h).window
  passed h cause.RefBack c s = (all_pass h).back
  passed h cause.Ids c s = (all_pass h).ids
  passed h cause.Revision c s = (all_pass h).revision
  passed h cause.Limit c s = (all_pass h).room
  passed h cause.Context c s = absurd (c refl)
  passed h cause.Schema c s = absurd (s refl)
