use Rattle.std.proofs.Common.{◌≡◌, ℕ, true, false, [], Some, None, IsSome, refl, sym, subst, arith, rules}
use Rattle.std.specs.BTreeMap.{get}
use Rattle.std.specs.List.{slice_get}
use Rattle.st_ids.specs.Order.{rev_cmp}
use Rattle.st_ids.specs.declared.names.Rev.{Rev}
use Rattle.st_lists.specs.declared.lists.Entry.{Entry}
use Rattle.st_plain_undo.specs.declared.logged.Logged.{Logged}
use Rattle.std.proofs.lemmas.Grind.{common_steps}
use Rattle.st_marks.specs.Document.{Document}
use Rattle.st_marks.specs.Run.{Run, done}
use Rattle.st_script.specs.Header.{header_view}
use Rattle.st_plain_schemas.specs.Schemas.{HasReading}
use Rattle.st_world.specs.World.{opening_document}
use Rattle.st_world_laws.proofs.Agreed.{begun_keeps}
use Rattle.st_plain.proofs.world.World.begin.Goals as goal

pub returns-clause-sound : goal.returns-clause-sound
returns-clause-sound c =
    let nothing : (rev : Rev) → get rev_cmp c.new-6.result rev ≡ None = λ rev. search (rules, common_steps) in
    rw (c.new.ensures, c.new-2.ensures, c.new-3.ensures, c.new-5.ensures) (record {
      header = c.requires.header;
      kept = tt;
      sessions = tt;
      given = tt;
      counted = refl;
      few_sessions = omega arith;
      clients = omega arith;
      ids = tt;
      forks = tt;
      log = tt;
      log_fit = tt;
      log_new = record { once = tt; new = λ N i j. i };
      own_ids = tt;
      ranges = tt;
      schema = begun_keeps (header_view c.args.header) (HasReading c.args.schemas) c.requires.header c.requires.schemas;
      log_document = subst (λ (D : Document). Run (opening_document (header_view c.args.header)) [] D) (sym c.requires.log_document) done;
      entries = omega arith;
      names = refl;
      few_names = omega arith;
      known = λ session. search (rules, common_steps);
      connected = record { each = λ x i. absurd i; no_other = λ n e. nobody e };
      minima = record { size = refl; each = λ i h. absurd (omega (arith, h)) };
      logged = record { each = λ i e N at is. nothing_at i e at; no_other = λ rev h. nothing_for (subst IsSome (nothing rev) h) };
    })
  where
    nobody : {R : Type 0} → false ≡ true → R
    nobody e = absurd (cc)

    nothing_at : {R : Type 0} (i : ℕ) (e : Entry) → slice_get [] i ≡ Some e → R
    nothing_at i e at = absurd (cc)

    nothing_for : {R : Type 0} → IsSome {T = Logged} None → R
    nothing_for h = absurd (cc)
