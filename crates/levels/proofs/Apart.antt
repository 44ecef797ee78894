-- Rows of which no entity has two.
use Rattle.std.proofs.Common.{◌≡◌, ℕ, List, [], ◌∷◌, ◌++◌, Some, None, true, false, cond, refl, sym, ap, ◌∙◌, inl, inr, arith}
use Rattle.std.proofs.lemmas.Bool.{eqb-true, eq-eqb}
use Rattle.levels.specs.declared.entity.Entity.{Entity}
use Rattle.levels.specs.declared.entity.Entity.TheVariants.{Thread, Bubble}
use Rattle.levels.specs.declared.entity.Place.{Place}
use Rattle.levels.specs.Rows.{Row, AreApart, is_entity, place_of, without}
use Rattle.levels.specs.Trees.{Tree, covers}
use Rattle.levels.specs.Choice.{IsIn, choice}
use Rattle.levels.proofs.Choosing.{chosen_in}

pub is_same : (a b : Entity) → is_entity a b ≡ true → a ≡ b
is_same (Thread a) (Thread b) h = grind (arith, eqb-true a.home b.home, eqb-true a.seq b.seq, h)
is_same (Thread a) (Bubble b) h = absurd (cc h)
is_same (Bubble a) (Thread b) h = absurd (cc h)
is_same (Bubble a) (Bubble b) h = ap Bubble (eqb-true a b h)

pub is_itself : (e : Entity) → is_entity e e ≡ true
is_itself (Thread t) = grind (arith, eq-eqb t.home t.home refl, eq-eqb t.seq t.seq refl)
is_itself (Bubble b) = eq-eqb b b refl

is_back : (a b : Entity) → is_entity a b ≡ true → is_entity b a ≡ true
is_back a b h = ap (λ e. is_entity b e) (is_same a b h) ∙ is_itself b

pub not_back : (a b : Entity) → is_entity a b ≡ false → is_entity b a ≡ false
not_back a b h = elim (is_entity b a) as (λ v. is_entity b a ≡ v → v ≡ false) [ true ↦ λ q. absurd (cc (is_back b a q, h)) | false ↦ λ q. refl ] refl

pub place_added_other : (rows : List Row) (last : Row) (e : Entity) → is_entity last.0 e ≡ false → place_of e (rows ++ last ∷ []) ≡ place_of e rows
place_added_other [] last e h = rw h refl
place_added_other (row ∷ rows) last e h =
    elim (is_entity row.0 e) as (λ v. cond v (Some row.1) (place_of e (rows ++ last ∷ [])) ≡ cond v (Some row.1) (place_of e rows)) [ true ↦ refl | false ↦ place_added_other rows last e h ]

pub place_added : (rows : List Row) (last : Row) → place_of last.0 rows ≡ None → place_of last.0 (rows ++ last ∷ []) ≡ Some last.1
place_added [] last n = rw (is_itself last.0) refl
place_added (row ∷ rows) last n =
    elim (is_entity row.0 last.0) as (λ v. cond v (Some row.1) (place_of last.0 rows) ≡ None → cond v (Some row.1) (place_of last.0 (rows ++ last ∷ [])) ≡ Some last.1)
    [ true ↦ λ q. absurd (cc q) | false ↦ λ q. place_added rows last q ] n

pub place_without_other : (rows : List Row) (e u : Entity) → is_entity e u ≡ false → place_of u (without e rows) ≡ place_of u rows
place_without_other [] e u h = refl
place_without_other (row ∷ rows) e u h =
    elim (is_entity row.0 e) as (λ v. is_entity row.0 e ≡ v → place_of u (cond v rows (row ∷ without e rows)) ≡ place_of u (row ∷ rows)) [
      | true ↦ λ q. let n : is_entity row.0 u ≡ false = ap (λ z. is_entity z u) (is_same row.0 e q) ∙ h in rw n refl
      | false ↦ λ q. elim (is_entity row.0 u) as (λ v. cond v (Some row.1) (place_of u (without e rows)) ≡ cond v (Some row.1) (place_of u rows)) [ true ↦ refl | false ↦ place_without_other rows e u h ]
    ] refl

pub place_without : (rows : List Row) (e : Entity) → AreApart rows → place_of e (without e rows) ≡ None
place_without [] e a = refl
place_without (row ∷ rows) e a =
    elim (is_entity row.0 e) as (λ v. is_entity row.0 e ≡ v → place_of e (cond v rows (row ∷ without e rows)) ≡ None) [
      | true ↦ λ q. ap (λ z. place_of z rows) (sym (is_same row.0 e q)) ∙ a.0
      | false ↦ λ q. rw q (place_without rows e a.1)
    ] refl

none_without : (rows : List Row) (e u : Entity) → place_of u rows ≡ None → place_of u (without e rows) ≡ None
none_without [] e u h = refl
none_without (row ∷ rows) e u h = grind (arith, none_without rows e u, h)

pub apart_without : (rows : List Row) (e : Entity) → AreApart rows → AreApart (without e rows)
apart_without [] e a = a
apart_without (row ∷ rows) e a =
    elim (is_entity row.0 e) as (λ v. AreApart (cond v rows (row ∷ without e rows)))
    [ true ↦ a.1 | false ↦ (none_without rows e row.0 a.0, apart_without rows e a.1) ]

pub apart_added : (rows : List Row) (last : Row) → AreApart rows → place_of last.0 rows ≡ None → AreApart (rows ++ last ∷ [])
apart_added [] last a h = (refl, tt)
apart_added (row ∷ rows) last a h =
    elim (is_entity row.0 last.0) as (λ v. is_entity row.0 last.0 ≡ v → cond v (Some row.1) (place_of last.0 rows) ≡ None → (place_of row.0 (rows ++ last ∷ []) ≡ None) × AreApart (rows ++ last ∷ []))
    [ true ↦ λ q n. absurd (cc n) | false ↦ λ q n. (place_added_other rows last row.0 (not_back row.0 last.0 q) ∙ a.0, apart_added rows last a.1 n) ] refl h

place_in : (r : Row) (rows : List Row) → AreApart rows → IsIn r rows → place_of r.0 rows ≡ Some r.1
place_in r [] a i = absurd i
place_in r (row ∷ rows) a (inl e) = rw (← e, is_itself r.0) refl
place_in r (row ∷ rows) a (inr i) =
    elim (is_entity row.0 r.0) as (λ v. is_entity row.0 r.0 ≡ v → cond v (Some row.1) (place_of r.0 rows) ≡ Some r.1) [
      | true ↦ λ q. let n : place_of r.0 rows ≡ None = ap (λ z. place_of z rows) (sym (is_same row.0 r.0 q)) ∙ a.0 in absurd (cc (n, place_in r rows a.1 i))
      | false ↦ λ q. place_in r rows a.1 i
    ] refl

pub chosen_place : (tree : Tree) (vp : ℕ) (rows : List Row) (r : Place × Entity) → AreApart rows → choice tree vp rows ≡ Some r → (place_of r.1 rows ≡ Some r.0) × (covers tree vp r.0.list ≡ true)
chosen_place tree vp rows r a h = let k = chosen_in tree vp rows r h in (place_in (r.1, r.0) rows a k.0, k.1)
