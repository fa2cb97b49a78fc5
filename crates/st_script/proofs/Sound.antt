-- A tree that is read of a value of a text is read of its form.
use Rattle.std.proofs.Common.{◌≡◌, ◌∙◌, Bool, cond, List, ◌∷◌, Option, Some, None, option_map, option_and_then, is_ok, refl, ap}
use Rattle.serde_json.specs.Data.{Data, Items, no_items, item}
use Rattle.st_tree.specs.Node.{Node}
use Rattle.st_tree.specs.Size.{check_of}
use Rattle.st_schema.specs.TreeText.{tree_in, within_limits, tree_of}
use Rattle.st_schema.proofs.Holds.{Holds-cond}
use Rattle.st_json.proofs.Rising.{Holds, Holds-map, Holds-and_then}
use Rattle.st_schema.proofs.Sound.{Sound, SoundItems, IsTree, tree_back}
use Rattle.st_script.specs.Members.{trees_in}
use Rattle.st_script.specs.StepText.{IsShown, AreShown}

limited_back : (d : Data) (o : Option Node) → tree_in d 48 ≡ o → Holds (IsTree d) o → Holds IsShown (option_and_then within_limits o)
limited_back d None is e = tt
limited_back d (Some t) is e =
    Holds-cond IsShown (is_ok (check_of t)) (Some t) None (λ ok. ap tree_of e ∙ ap (option_and_then within_limits) is ∙ ap (λ (b : Bool). cond b (Some t) None) ok) tt

-- a tree that is read of such a value is read of its form
pub tree_shown : (d : Data) → Sound d → Holds IsShown (tree_of d)
tree_shown d p = limited_back d (tree_in d 48) refl (tree_back d 48 p)

pub trees_shown : (ds : Items) → SoundItems ds → Holds AreShown (trees_in ds)
trees_shown no_items p = tt
trees_shown (item d ds) p =
    Holds-and_then IsShown AreShown (λ (t : Node). option_map (λ (ts : List Node). t ∷ ts) (trees_in ds))
    (λ t h. Holds-map AreShown AreShown (λ (ts : List Node). t ∷ ts) (λ ts hs. (h, hs)) (trees_in ds) (trees_shown ds p.1)) (tree_of d) (tree_shown d p.0)
