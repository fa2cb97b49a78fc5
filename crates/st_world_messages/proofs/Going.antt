-- Whatever a step leads to, the world sends in order again.
use Rattle.std.proofs.Common.{◌≤◌, ◌+◌, ℕ, List, [], ◌∷◌, ◌++◌}
use Rattle.std.specs.List.{AllByRecursion}
use Rattle.st_ids.specs.Listing.{Has}
use Rattle.st_ids.specs.Root.{opening}
use Rattle.st_marks.specs.declared.intents.Intent.{Intent}
use Rattle.st_marks.proofs.Members.{all-has, append_left, distinct-left}
use Rattle.st_lists.specs.Clients.{empty_state}
use Rattle.st_lists.specs.Lines.{commits_of, main_line}
use Rattle.st_lists.specs.declared.lists.Client.{Client}
use Rattle.st_lists.specs.declared.lists.WorldState.{WorldState}
use Rattle.st_schema_laws.specs.Lines.{IsLine}
use Rattle.st_schema_laws.proofs.CommitsInTurn.{agree_front}
use Rattle.st_schema_laws.proofs.Earlier.{earlier_front}
use Rattle.st_log_laws.proofs.Turns.{front}
use Rattle.st_script.specs.Header.{HeaderView}
use Rattle.st_script.specs.Steps.{StepView}
use Rattle.st_script.specs.declared.answer.Answer.{Answer}
use Rattle.st_world.specs.World.{IsNext, opening_document}
use Rattle.st_world_laws.specs.Worlds.{Any, CommitsKeepSchemas, IsHeader, IsKnownBy, IsMadeAsTold, IsWorld, KeepsRules}
use Rattle.st_world_laws.proofs.Everyone.{all_as}
use Rattle.st_world_laws.proofs.Going.{begun_sound}
use Rattle.st_world_laws.proofs.GoingOn.{goes_on}
use Rattle.st_author_lists.proofs.Going.{authors_next}
use Rattle.st_author_lists.proofs.Written.{begun_authors}
use Rattle.st_carried_ids.proofs.Few.{few_next}
use Rattle.st_world_messages.specs.Order.{AreALine, SendsInOrder, SpeaksInOrder}
use Rattle.st_world_messages.specs.Steps.{BringsVersion4, IsVersion4}
use Rattle.st_world_messages.proofs.Ordered.{begun_order, order_after}
use Rattle.st_world_messages.proofs.Over.{begun_written, written_after}
use Rattle.st_world_messages.proofs.Walk.{leads_on}

-- ## Lists of commits that agree with their schemas

all_front : {X : Type 0} (P : X → Type 0) (xs ys : List X) → AllByRecursion P (xs ++ ys) → AllByRecursion P xs
all_front P [] ys a = tt
all_front P (x ∷ xs) ys a = (a.0, all_front P xs ys a.1)

line_front : (h : HeaderView) (xs ys : List Intent) → AreALine h (xs ++ ys) → AreALine h xs
line_front h xs ys (T, k) = (T, record { line = fronted k.line; known = all_front (IsKnownBy Any) xs ys k.known; made = all_front (IsMadeAsTold T) xs ys k.made; first = k.first })
  where
    fronted : IsLine T (opening_document h) (xs ++ ys) → IsLine T (opening_document h) xs
    fronted l = record {
      sound = l.sound;
      made = l.made;
      conforms = l.conforms;
      fit = front xs ys (opening_document h) l.fit;
      new = record { once = distinct-left (λ (M : Intent). M.rev) xs ys l.new.once; new = λ M i. l.new.new M (append_left xs ys M i) };
      earlier = earlier_front (opening ∷ []) xs ys l.earlier;
      agree = agree_front T xs ys (opening_document h) l.agree;
    }

-- what a client shows is one
shown_line : (h : HeaderView) (v : WorldState) → IsWorld h v → (d : Client) → Has v.clients d → AreALine h (commits_of v.log (main_line d))
shown_line h v t d i = (t.schema.told, (all-has (λ (c : Client). CommitsKeepSchemas h Any t.schema.told v.log (main_line c)) v.clients d t.schema.keep.shown i))

-- ## A step

pub begun : (h : HeaderView) → IsHeader h → SendsInOrder h 0 empty_state
begun h k = record { world = begun_sound h k; authors = begun_authors h; order = begun_order; schemas = begun_written (AreALine h) }

pub goes_in_order : (h : HeaderView) (n : ℕ) (w v : WorldState) (s : StepView) (a : Answer) → SendsInOrder h n w → KeepsRules s.act → BringsVersion4 s.act → IsNext h w s v a → SendsInOrder h (n + 1) v
goes_in_order h n w v s a x rules v4 next =
    let t = goes_on h w x.world v a s rules next in
    let leads = leads_on IsVersion4 h w v s a x.world v4 next in
    let low = all_as (SpeaksInOrder n w.log) (λ (c : Client). c.ids ≤ n) w.clients (λ c p. p.ids) x.order.clients in
    record {
      world = t;
      authors = authors_next h w v s a x.world x.authors rules next;
      order = order_after h n w v x.world x.order leads (few_next h w v s a n x.world low x.order.carried next);
      schemas = written_after IsVersion4 (AreALine h) (line_front h) h w v x.world t x.schemas (shown_line h v t) leads;
    }
