-- A value is read as one message at most, and passes the tests that this one passes.
use Rattle.std.proofs.Common.{◌≡◌, Option, None, Some, List, [], ◌∷◌, refl, sym, ap, ◌∙◌, subst, inl, inr, option_map, MatchOption}
use Rattle.serde_json.specs.Data.{Data}
use Rattle.st_marks.specs.declared.changes.Change.{Change}
use Rattle.st_marks.specs.Document.{Document}
use Rattle.st_msg.specs.Messages.{MessageView, SaidView, message_of}
use Rattle.st_msg.specs.Messages as told
use Rattle.st_lists.specs.declared.lists.Entry.{Entry}
use Rattle.st_valid_laws.specs.Messages.{IsFirstFailing, IsRefusedFor, IsValid, Passes, in_order}
use Rattle.st_valid_laws.specs.Shape.{IsRead, IsReadSo, IsSaid, IsValidValue, IsValueRefusedFor, PassesAsMessage, message_with}
use Rattle.st_valid.specs.declared.message.Message.{Message}
use Rattle.st_valid.specs.declared.message.ReplayCause.{ReplayCause}
use Rattle.st_valid.specs.declared.message.ReplayCause.TheVariants as cause
use Rattle.st_valid.specs.declared.message.Said.{Said}
use Rattle.st_valid.specs.declared.message.Said.TheVariants as said

-- ## One reading

one_change : (any named : Option Change) (a b : Option (Option Change)) → IsReadSo any named a → IsReadSo any named b → a ≡ b
one_change None named a b p q = p ∙ sym q
one_change (Some any) None a b p q = p ∙ sym q
one_change (Some any) (Some C) None None p q = refl
one_change (Some any) (Some C) None (Some d) p q = absurd (p q.1)
one_change (Some any) (Some C) (Some c) None p q = absurd (q p.1)
one_change (Some any) (Some C) (Some c) (Some d) p q = ap Some (p.0 ∙ sym q.0)

one_said : (log : List Entry) (session : _) (v : SaidView) (a b : Option Said) → IsSaid log session v a → IsSaid log session v b → a ≡ b
one_said log session (told.Join uuid) a b p q = p ∙ sym q
one_said log session told.Leave a b p q = p ∙ sym q
one_said log session (told.Ack reference) a b p q = p ∙ sym q
one_said log session (told.Commit reference ids change) a b p q =
    p.2 ∙ ap (option_map (λ C. said.Commit reference ids C)) (one_change _ _ p.0 q.0 p.1 q.1) ∙ sym q.2

pub one_reading : (log : List Entry) (d : Data) (a b : Option Message) → IsRead log d a → IsRead log d b → a ≡ b
one_reading log d a b p q = go (message_of d) p q
  where
    go : (o : Option MessageView) → MatchOption o (a ≡ None) (λ v. (s : Option Said) × IsSaid log v.session v.said s × (a ≡ option_map (message_with v) s))
        → MatchOption o (b ≡ None) (λ v. (s : Option Said) × IsSaid log v.session v.said s × (b ≡ option_map (message_with v) s)) → a ≡ b
    go None p q = p ∙ sym q
    go (Some v) p q = p.2 ∙ ap (option_map (message_with v)) (one_said log v.session v.said p.0 q.0 p.1 q.1) ∙ sym q.2

-- ## The same tests

module _ (O : Document) (log : List Entry) (d : Data) (m : Message) (read : IsRead log d (Some m)) where
  there : (c : ReplayCause) → Passes O log m c → PassesAsMessage O log d c
  there c p = (m, read, p)

  back : (c : ReplayCause) → PassesAsMessage O log d c → Passes O log m c
  back c p = subst (λ (x : Message). Passes O log x c) (only (one_reading log d (Some p.0) (Some m) p.1 read)) p.2
    where
      only : {x y : Message} → Some x ≡ Some y → x ≡ y
      only e = cc

  along : (P Q : ReplayCause → Type 0) → ((c : ReplayCause) → P c → Q c) → ((c : ReplayCause) → Q c → P c) → (tests : List ReplayCause) (c : ReplayCause) → IsFirstFailing P tests c → IsFirstFailing Q tests c
  along P Q f g [] c h = h
  along P Q f g (t ∷ ts) c (inl h) = inl (h.0, λ q. h.1 (g t q))
  along P Q f g (t ∷ ts) c (inr h) = inr (f t h.0, along P Q f g ts c h.1)

  pub refused_as_message : (c : ReplayCause) → IsRefusedFor O log m c → IsValueRefusedFor O log d c
  refused_as_message c h = along (Passes O log m) (PassesAsMessage O log d) there back in_order c h

  pub message_refused : (c : ReplayCause) → IsValueRefusedFor O log d c → IsRefusedFor O log m c
  message_refused c h = along (PassesAsMessage O log d) (Passes O log m) back there in_order c h

  pub valid_as_message : IsValid O log m → IsValidValue O log d
  valid_as_message h t = there t (h t)

  pub message_valid : IsValidValue O log d → IsValid O log m
  message_valid h t = back t (h t)

-- what is read as no message is refused for its shape
pub no_message_refused : (O : Document) (log : List Entry) (d : Data) → IsRead log d None → IsValueRefusedFor O log d cause.Shape
no_message_refused O log d none = inl (refl, λ p. differ (one_reading log d None (Some p.0) none p.1))
  where
    differ : {x : Message} → None ≡ Some x → ⊥
    differ e = cc
