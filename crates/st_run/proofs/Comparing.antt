-- Replies to the lines of two schemas.
use Rattle.std.proofs.Common.{◌≡◌, ℕ, ◌+◌, true, false, List, [], Option, Some, None, Ok, refl, sym, ◌∙◌, subst}
use Rattle.st_json.specs.declared.fault.BadCause.{BadCause}
use Rattle.st_compat.specs.Relation.{IsRelation}
use Rattle.st_compat.specs.RelationText.{relation_line}
use Rattle.st_compat.specs.SchemaLine.{IsSchemaLine, further_cause}
use Rattle.st_compat.specs.declared.relation.Relation.{Relation}
use Rattle.st_pieces.specs.Told.{IsEnd, IsReply}
use Rattle.st_pieces.specs.declared.responder.Reply.{Reply}
use Rattle.st_schema.specs.Schema.{SchemaView}
use Rattle.st_answers.specs.Compat.{CompatState, TakesCompat, compat, related, stored, unread}
use Rattle.st_answers.specs.Meaning.{EndsAt, FailsAt, FinishesAt}
use Rattle.st_answers.specs.declared.cause.EndCause.{EndCause}
use Rattle.st_answers.specs.declared.cause.EndCause.TheVariants as why
use Rattle.st_run.specs.declared.compat.Comparing.{Comparing}
use Rattle.st_run.specs.inside.Replies.{IsRefusal, IsTelling}
use Rattle.st_run.specs.inside.Comparing.{IsStoredIn, StandsForCompat}
use Rattle.st_run.proofs.Replying.{ends_badly, ends_well, refused, reply_as, told_so}

-- the stored schema is taken
pub stored_told : (n : ℕ) (line : List ℕ) (s : SchemaView) (o : Option SchemaView) (r : Reply EndCause) → IsSchemaLine line (Ok s) → o ≡ Some s → IsTelling [] r
    → IsReply (TakesCompat unread n line) (EndsAt compat unread n line) (IsStoredIn o) r
stored_told n line s o r is kept told = told_so compat unread n line (IsStoredIn o) [] (stored s) r (record { schema = s; is = is; told = refl; state = refl }) (s, kept, refl) told

-- the relation is told
pub relation_told : (n : ℕ) (line : List ℕ) (s v : SchemaView) (r : Reply EndCause) → IsSchemaLine line (Ok v) → (relation : Relation) × IsRelation s v relation × IsTelling (relation_line relation) r
    → IsReply (TakesCompat (stored s) n line) (EndsAt compat (stored s) n line) (λ t. t ≡ related) r
relation_told n line s v r is told =
    told_so compat (stored s) n line (λ t. t ≡ related) (relation_line told.0) related r (record { view = v; relation = told.0; is = is; relates = told.1; told = refl; state = refl }) refl told.2

no_schema : (o : Option SchemaView) (s : SchemaView) → o ≡ Some s → o ≡ None → ⊥
no_schema o s e f = let r : Some s ≡ None = sym e ∙ f in cc

same_schema : (o : Option SchemaView) (s v : SchemaView) → o ≡ Some s → o ≡ Some v → s ≡ v
same_schema o s v e f = let r : Some s ≡ Some v = sym e ∙ f in cc

not_both : (c : Comparing) → c.done ≡ true → c.done ≡ false → ⊥
not_both c e f = cc

-- ## Each line

pub further_taken : (old new : Comparing) (n : ℕ) (line : List ℕ) (r : Reply EndCause) → old.done ≡ true → IsRefusal n (why.Bad (further_cause line)) r
    → (s : CompatState) → StandsForCompat old n s → IsReply (TakesCompat s n line) (EndsAt compat s n line) (StandsForCompat new (n + 1)) r
further_taken old new n line r done by unread stands = absurd (not_both old done stands.0)
further_taken old new n line r done by (stored s) stands = absurd (not_both old done stands.0)
further_taken old new n line r done by related stands = refused compat related n line (StandsForCompat new (n + 1)) (why.Bad (further_cause line)) r refl by

pub view_taken : (old new : Comparing) (n : ℕ) (line : List ℕ) (kept : SchemaView) (r : Reply EndCause) → old.done ≡ false → old.schema ≡ Some kept → new.done ≡ true
    → IsReply (TakesCompat (stored kept) n line) (EndsAt compat (stored kept) n line) (λ t. t ≡ related) r
    → (s : CompatState) → StandsForCompat old n s → IsReply (TakesCompat s n line) (EndsAt compat s n line) (StandsForCompat new (n + 1)) r
view_taken old new n line kept r so_far is now by unread stands = absurd (no_schema old.schema kept is stands.1)
view_taken old new n line kept r so_far is now by related stands = absurd (not_both old stands so_far)
view_taken old new n line kept r so_far is now by (stored s) stands =
    let here : IsReply (TakesCompat (stored s) n line) (EndsAt compat (stored s) n line) (λ t. t ≡ related) r = subst (λ (x : SchemaView). IsReply (TakesCompat (stored x) n line) (EndsAt compat (stored x) n line) (λ t. t ≡ related) r) (same_schema old.schema kept s is stands.1) by in
    reply_as compat (stored s) n line (λ t. t ≡ related) (StandsForCompat new (n + 1)) (λ t e. subst (λ (x : CompatState). StandsForCompat new (n + 1) x) (sym e) now) r here

pub stored_taken : (old new : Comparing) (n : ℕ) (line : List ℕ) (r : Reply EndCause) → old.done ≡ false → old.schema ≡ None → new.done ≡ false
    → IsReply (TakesCompat unread n line) (EndsAt compat unread n line) (IsStoredIn new.schema) r
    → (s : CompatState) → StandsForCompat old n s → IsReply (TakesCompat s n line) (EndsAt compat s n line) (StandsForCompat new (n + 1)) r
stored_taken old new n line r so_far none still by (stored s) stands = absurd (no_schema old.schema s stands.1 none)
stored_taken old new n line r so_far none still by related stands = absurd (not_both old stands so_far)
stored_taken old new n line r so_far none still by unread stands =
    reply_as compat unread n line (IsStoredIn new.schema) (StandsForCompat new (n + 1)) (λ t e. subst (λ (x : CompatState). StandsForCompat new (n + 1) x) (sym e.2) (still, e.1)) r by

-- ## The end

pub compat_ends : (c : Comparing) (n : ℕ) (r : Reply EndCause) → c.done ≡ true → IsTelling [] r → (s : CompatState) → StandsForCompat c n s → IsEnd (FinishesAt compat s n) (FailsAt compat s n) r
compat_ends c n r done told unread stands = absurd (not_both c done stands.0)
compat_ends c n r done told (stored s) stands = absurd (not_both c done stands.0)
compat_ends c n r done told related stands = ends_well compat related n [] r refl told

pub compat_lacks : (c : Comparing) (n : ℕ) (r : Reply EndCause) → c.done ≡ false → IsRefusal n (why.Bad BadCause.Shape) r → (s : CompatState) → StandsForCompat c n s → IsEnd (FinishesAt compat s n) (FailsAt compat s n) r
compat_lacks c n r so_far told unread stands = ends_badly compat unread n (why.Bad BadCause.Shape) r refl told
compat_lacks c n r so_far told (stored s) stands = ends_badly compat (stored s) n (why.Bad BadCause.Shape) r refl told
compat_lacks c n r so_far told related stands = absurd (not_both c stands so_far)
