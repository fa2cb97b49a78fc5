-- What passes no limit leaves room.
use Rattle.std.proofs.Common.{Bool, None, Option, Some, arith, cond, false, length, nat_lt, refl, true, ℕ, ◌+◌, ◌<◌, ◌≡◌, ◌≤◌}
use Rattle.st_lists.specs.Names.{names_made, unsequenced}
use Rattle.st_world.specs.World.{opening_document}
use Rattle.std.proofs.lemmas.Bool.Decides.{nat_tests}
use Rattle.st_ids.specs.declared.names.Limit.{Limit}
use Rattle.st_ids.specs.declared.names.LimitOf.TheVariants.{Pending, Unsequenced}
use Rattle.st_marks.specs.declared.intents.Intent.{Intent}
use Rattle.st_script.specs.Header.{HeaderView}
use Rattle.st_lists.specs.Lines.{main_line}
use Rattle.std.specs.Option.{option_or}
use Rattle.st_lists.specs.Limits.{limit_passed, names_limit_passed, pending_limit_passed}
use Rattle.st_lists.specs.declared.lists.Client.{Client}
use Rattle.st_world_laws.proofs.Begun.{IsStart}

module _ (h : HeaderView) (st : IsStart (opening_document h)) where
  pub within_pending : (c : Client) → pending_limit_passed c ≡ None → length c.pending < 256
  within_pending c e = go (nat_lt 256 (length c.pending + 1)) refl e
    where
      go : (b : Bool) → nat_lt 256 (length c.pending + 1) ≡ b → ◌≡◌ {A = Option Limit} (cond b (Some (record { of = Pending; kept = length c.pending })) None) None → length c.pending < 256
      go true p e = absurd (cc)
      go false p e = grind (arith, nat_tests)

  pub within_names : (c : Client) (N : Intent) → names_limit_passed c N ≡ None → unsequenced c + names_made N ≤ 16384
  within_names c N e = few (unsequenced c + names_made N) (go (nat_lt 16384 (unsequenced c + names_made N)) refl e)
    where
      go : (b : Bool) → nat_lt 16384 (unsequenced c + names_made N) ≡ b → ◌≡◌ {A = Option Limit} (cond b (Some (record { of = Unsequenced; kept = unsequenced c })) None) None → nat_lt 16384 (unsequenced c + names_made N) ≡ false
      go true p e = absurd (cc)
      go false p e = p

      few : (n : ℕ) → nat_lt 16384 n ≡ false → n ≤ 16384
      few n e = grind (arith, nat_tests)

  -- a commit that passes no limit
  pub within_limits : (c : Client) (N : Intent) → limit_passed c 0 (main_line c) N ≡ None → (length c.pending < 256) × (unsequenced c + names_made N ≤ 16384)
  within_limits c N e = let b = both (pending_limit_passed c) (names_limit_passed c N) e in (within_pending c b.0, within_names c N b.1)
    where
      both : (o p : Option Limit) → option_or o p ≡ None → (o ≡ None) × (p ≡ None)
      both None p e = (refl, e)
      both (Some l) p e = cc
