use Rattle.std.proofs.Common.{◌≡◌, ◌∙◌, List, ap, map, subst, sym}
use Rattle.std.specs.Prelude.{Ok}
use Rattle.st_edits.specs.Resolve.{walk}
use Rattle.st_ids.specs.Root.{root}
use Rattle.st_ids.specs.declared.names.Place.{Place}
use Rattle.st_cursor.specs.At.{node_of}
use Rattle.st_cursor.specs.declared.hops.Hop.{Hop}
use Rattle.st_cursor.proofs.Ways.{walked}
use Rattle.st_cursor.proofs.cursor.Cursor.path.Goals as goal

pub returns-clause-back : goal.returns-clause-back
returns-clause-back c = λ D i. subst (λ (p : List Place). walk D p ≡ Ok (node_of c.args.self.now)) (sym (c.in_ok-path.ensures ∙ ap (map (λ (h : Hop). h.place)) c.as_slice.ensures)) (walked D 0 root c.args.self.now.hops i.way)
