-- The schema that is read of a value, or refused.
use Rattle.std.proofs.Common.{◌≡◌, ◌≢◌, ◌∙◌, Bool, true, false, Option, Some, None, option_and_then, IsTrue, refl, ap, sym}
use Rattle.std.specs.Prelude.{if◌then◌else◌}
use Rattle.serde_json.specs.Data.{Data}
use Rattle.st_schema.specs.Schema.{SchemaView, is_sound}
use Rattle.st_schema.specs.Reading.{schema_of}
use Rattle.st_schema.specs.Written.{schema_data}
use Rattle.st_schema.proofs.Forms.{schema_back, schema_read}
use Rattle.st_script.specs.Members.{sound_schema}

picked_at : {A : Type 0} (k : Bool) (a : A) → k ≡ true → Some a ≡ (if k then Some a else None)
picked_at true a h = refl
picked_at false a h = absurd (cc)

picked : {A : Type 0} (keep : A → Bool) (o : Option A) (a : A) → o ≡ Some a → keep a ≡ true → Some a ≡ option_and_then (λ x. if keep x then Some x else None) o
picked keep o a h k = picked_at (keep a) a k ∙ ap (option_and_then (λ x. if keep x then Some x else None)) (sym h)

dropped_at : {A : Type 0} (k : Bool) (a : A) → (k ≡ true → ⊥) → None ≡ (if k then Some a else None)
dropped_at true a h = absurd (h refl)
dropped_at false a h = refl

dropped : {A : Type 0} (keep : A → Bool) (o : Option A) → ((a : A) → o ≡ Some a → keep a ≡ true → ⊥) → None ≡ option_and_then (λ x. if keep x then Some x else None) o
dropped keep None h = refl
dropped keep (Some a) h = dropped_at (keep a) a (h a refl)

pub schema_seen : (d : Data) (s : SchemaView) → d ≡ schema_data s → IsTrue (is_sound s) → Some s ≡ sound_schema d
schema_seen d s is sound = picked is_sound (schema_of d) s (ap schema_of is ∙ schema_read s sound) sound

pub schema_unseen : (d : Data) → ((s : SchemaView) → IsTrue (is_sound s) → d ≢ schema_data s) → None ≡ sound_schema d
schema_unseen d h = dropped is_sound (schema_of d) (λ s read sound. h s sound (schema_back d s read))
