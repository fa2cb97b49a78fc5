-- Intents that are alike.
use Rattle.std.proofs.Common.{◌≡◌, ◌⊎◌, inl, inr, ◌+◌, ◌||◌, false, List, [], ◌∷◌, ◌++◌, Option, Some, None, refl, sym, ap, ◌∙◌, subst, is_some, IfSome, option_map, option_and_then}
use Rattle.std.specs.Option.{option_or, option_map_or}
use Rattle.st_ids.specs.Listing.{Has}
use Rattle.st_ids.specs.declared.names.CellId.{CellId}
use Rattle.st_ids.specs.declared.names.NodeId.{NodeId}
use Rattle.st_marks.specs.declared.changes.NewNode.{NewNode}
use Rattle.st_marks.specs.declared.intents.Intent.{Intent}
use Rattle.st_marks.specs.Document.{Document, NodeType}
use Rattle.st_marks.specs.Intent.{IsIntent, is_new, group_at, new_node, put_of, clears}
use Rattle.st_marks.specs.Join.{IsJoin, IsOldAnchor, put_unless_new, unless_cleared_by}
use Rattle.st_marks.specs.CarryOut.{with_groups}
use Rattle.st_marks.specs.Run.{Run}
use Rattle.st_marks.proofs.OneVerdict.{one_run}
use Rattle.st_lists.specs.Open.{IsWithPart}
use Rattle.st_lists.specs.Names.{names_in, names_made}
use Rattle.st_same_laws.specs.Same.{SaysTheSame, SayTheSame}
use Rattle.st_same_laws.proofs.JoinsAndWaysBack.{joins_say}
use Rattle.st_same_laws.proofs.CountsOfNames.{nodes_same, cells_same}
use Rattle.st_same_laws.proofs.RunsOfCommits.{run_same}
use Rattle.st_one_laws.specs.AlikeWorlds.{IsAlike, InBoth, OneByOne}

says_itself : (N : Intent) → SaysTheSame N N
says_itself N = record {
  rev = refl;
  under = refl;
  schema = refl;
  new = λ n. refl;
  groups = λ n a. refl;
  rows = λ c. refl;
  puts = λ n. refl;
  fills = λ f. refl;
  clear = λ f. refl;
  needs = λ n. (λ h. h, λ h. h);
}

pub alike_itself : (N : Intent) → IsAlike N N
alike_itself N = inl refl

pub alike_says : (N M : Intent) → IsAlike N M → SaysTheSame N M
alike_says N M (inl e) = subst (SaysTheSame N) e (says_itself N)
alike_says N M (inr s) = s.2

pub rev_alike : (N M : Intent) → IsAlike N M → N.rev ≡ M.rev
rev_alike N M a = (alike_says N M a).rev

pub made_alike : (N M : Intent) → IsAlike N M → names_made N ≡ names_made M
made_alike N M (inl e) = ap names_made e
made_alike N M (inr s) = λ i. nodes_same N M s.0 s.1 s.2 i + cells_same N M s.0 s.1 s.2 i

pub names_alike : (Ns Ms : List Intent) → OneByOne IsAlike Ns Ms → names_in Ns ≡ names_in Ms
names_alike [] [] o = refl
names_alike [] (M ∷ Ms) o = absurd o
names_alike (N ∷ Ns) [] o = absurd o
names_alike (N ∷ Ns) (M ∷ Ms) o = λ i. made_alike N M o.0 i + names_alike Ns Ms o.1 i

say_all : (Ns Ms : List Intent) → OneByOne IsAlike Ns Ms → SayTheSame Ns Ms
say_all [] [] o = tt
say_all [] (M ∷ Ms) o = absurd o
say_all (N ∷ Ns) [] o = absurd o
say_all (N ∷ Ns) (M ∷ Ms) o = (alike_says N M o.0, say_all Ns Ms o.1)

-- alike commits lead to one document
pub lead_alike : (D E F : Document) (Ns Ms : List Intent) → OneByOne IsAlike Ns Ms → Run D Ns E → Run D Ms F → E ≡ F
lead_alike D E F Ns Ms o r q = one_run (run_same D E Ns Ms (say_all Ns Ms o) r) q

-- ## Joins

new_alike : (N P : Intent) → SaysTheSame N P → (n : NodeId) → is_new N n ≡ is_new P n
new_alike N P s n = ap (λ (o : Option NewNode). is_some (option_map (λ (m : NewNode). let t : NodeType = record { ty = m.ty; leaf = m.leaf } in t) o)) (s.new n)

old_anchor : (N P : Intent) → SaysTheSame N P → (a : Option CellId) → IsOldAnchor P a → IsOldAnchor N a
old_anchor N P s None h = tt
old_anchor N P s (Some c) h = s.rows c ∙ h

join_of : (N P M J : Intent) → SaysTheSame N P → IsJoin N M J → IsJoin P M J
join_of N P M J s j = record {
  itself = j.itself;
  rev = j.rev ∙ s.rev;
  under = j.under ∙ s.under;
  no_schema = j.no_schema;
  new_nodes = λ n. j.new_nodes n ∙ ap (λ o. option_or o (new_node M n)) (s.new n);
  groups = λ n a old. j.groups n a (old_anchor N P s a old) ∙ ap (λ os. group_at M n a ++ with_groups M n os) (s.groups n a);
  puts = λ n. j.puts n ∙ (λ i. option_and_then (put_unless_new (new_alike N P s n i)) (option_or (put_of M n) (option_map (unless_cleared_by M) (s.puts n i))));
  clears_both = λ f. j.clears_both f ∙ ap (λ b. b || clears M f) (s.clear f);
  needs = λ n. (
    λ h. first n ((j.needs n).0 h),
    λ h. (j.needs n).1 (back n h),
  );
}
  where
    first : (n : NodeId) → Has N.need n ⊎ (Has M.need n × (is_new N n ≡ false)) → Has P.need n ⊎ (Has M.need n × (is_new P n ≡ false))
    first n (inl h) = inl ((s.needs n).0 h)
    first n (inr h) = inr (h.0, sym (new_alike N P s n) ∙ h.1)

    back : (n : NodeId) → Has P.need n ⊎ (Has M.need n × (is_new P n ≡ false)) → Has N.need n ⊎ (Has M.need n × (is_new N n ≡ false))
    back n (inl h) = inl ((s.needs n).1 h)
    back n (inr h) = inr (h.0, new_alike N P s n ∙ h.1)

joins_alike : (N P M J K : Intent) → IsAlike N P → IsIntent P → IsJoin N M J → IsJoin P M K → IsAlike J K
joins_alike N P M J K a w j k = inr (j.itself, k.itself, joins_say P M J K w (join_of N P M J (alike_says N P a) j) k)

-- what was edited, with one part more
pub parts_alike : (o p : Option Intent) (M J K : Intent) → InBoth IsAlike o p → IfSome p IsIntent → IsWithPart o M J → IsWithPart p M K → IsAlike J K
parts_alike None None M J K a w j k = inl (j ∙ sym k)
parts_alike None (Some P) M J K a w j k = absurd a
parts_alike (Some N) None M J K a w j k = absurd a
parts_alike (Some N) (Some P) M J K a w j k = joins_alike N P M J K a w j k

pub option_names_alike : (o p : Option Intent) → InBoth IsAlike o p → option_map_or names_made o 0 ≡ option_map_or names_made p 0
option_names_alike None None a = refl
option_names_alike None (Some P) a = absurd a
option_names_alike (Some N) None a = absurd a
option_names_alike (Some N) (Some P) a = made_alike N P a
