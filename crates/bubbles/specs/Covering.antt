-- Where the entities of a forest stand: on lists that are some processor's.
use Rattle.std.specs.Prelude.{◌≡◌, ◌<◌, ℕ, List, [], ◌∷◌, true, ⊤}
use Rattle.levels.specs.Trees.{Tree, processors, covers}
use Rattle.levels.specs.Rows.{Row}
use Rattle.bubbles.specs.declared.bubble.KnownThread.{KnownThread}
use Rattle.bubbles.specs.Forests.{ForestView}

-- the list is one of the tree: it covers a processor
pub record IsOfTree (tree : Tree) (list : ℕ) : Type 0 where
  pub vp : ℕ
  pub some : vp < processors tree
  pub covered : covers tree vp list ≡ true

abbrev pub AreOfTree : Tree → List Row → Type 0
AreOfTree tree [] = ⊤
AreOfTree tree (row ∷ rows) = IsOfTree tree row.1.list × AreOfTree tree rows

-- the lists from which threads ran last
abbrev pub LastsOfTree : Tree → List KnownThread → Type 0
LastsOfTree tree [] = ⊤
LastsOfTree tree (x ∷ xs) = IsOfTree tree x.last × LastsOfTree tree xs

-- each entity stands on a list of the tree, and so will each thread that goes on
pub record AreCovered (w : ForestView) : Type 0 where
  pub rows : AreOfTree w.lists.tree w.lists.rows
  pub lasts : LastsOfTree w.lists.tree w.threads
