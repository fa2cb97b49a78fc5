use Rattle.std.proofs.Common.{◌≡◌, None, refl, sym, ap, subst, arith, inl, inr}
use Rattle.std.proofs.lemmas.Option.{slice_get_within}
use Rattle.st_clusters.specs.Ids.{ids_of}
use Rattle.st_clusters.specs.Log.{IsTableOf}
use Rattle.st_lists.specs.Log.{range_in}
use Rattle.st_entry_texts.proofs.RangesRead.{read_bare}
use Rattle.st_entry_texts.proofs.numbers.Numbers.read_one.Goals as goal

pub returns-in-Join : goal.returns-in-Join
returns-in-Join c =
    let none : range_in c.args.entry.now.body ≡ None = elim c.in-Join.is [ inl h ↦ ap range_in h.1 | inr h ↦ elim h [ inl k ↦ ap range_in k | inr k ↦ ap range_in k.1 ] ] in
    record {
      read = refl;
      within = omega (arith, slice_get_within c.args.log.now c.args.self.now.read c.args.entry.now c.requires.next);
      table = subst (λ l. IsTableOf l (ids_of c.args.self.now.ids)) (sym (read_bare c.args.log.now c.args.self.now.read c.args.entry.now c.requires.next none)) c.requires.numbered.table;
      sessions = c.requires.numbered.sessions;
    }
