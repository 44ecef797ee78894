-- The choice of a processor: how it comes about row by row, and what it is in words.
use Rattle.std.proofs.Common.{◌≡◌, ℕ, ◌<◌, List, [], ◌∷◌, ◌++◌, Option, Some, None, Bool, true, false, cond, eqb, ltb, ◌&&◌, refl, sym, subst, ◌∙◌, inl, inr, arith}
use Rattle.std.specs.Prelude.{◌||◌}
use Rattle.std.proofs.lemmas.Bool.{eqb-true, eqb-false, ltb-true, ltb-false}
use Rattle.std.proofs.lemmas.Option.{same_Some}
use Rattle.basics.proofs.Lemmas.{by_eq}
use Rattle.levels.specs.declared.entity.Entity.{Entity}
use Rattle.levels.specs.declared.entity.Place.{Place}
use Rattle.levels.specs.Rows.{Row, AreAfter, AreAscending}
use Rattle.levels.specs.Trees.{Tree, depth_of, covers}
use Rattle.levels.specs.Choice.{outranks, chosen_of, choice, has_ready, IsBefore, IsIn, IsBeforeAll, IsChosen}

-- the choice among these rows, where this is the choice among those behind them
abbrev pub choice_over : Tree → ℕ → List Row → Option (Place × Entity) → Option (Place × Entity)
choice_over tree vp [] later = later
choice_over tree vp (row ∷ rows) later = cond (covers tree vp row.1.list) (chosen_of tree (row.1, row.0) (choice_over tree vp rows later)) (choice_over tree vp rows later)

pub choice_whole : (tree : Tree) (vp : ℕ) (rows : List Row) → choice_over tree vp rows None ≡ choice tree vp rows
choice_whole tree vp [] = refl
choice_whole tree vp (row ∷ rows) = rw (choice_whole tree vp rows) refl

pub choice_last : (tree : Tree) (vp : ℕ) (rows : List Row) (last : Row) (later : Option (Place × Entity))
    → choice_over tree vp (rows ++ last ∷ []) later ≡ choice_over tree vp rows (cond (covers tree vp last.1.list) (chosen_of tree (last.1, last.0) later) later)
choice_last tree vp [] last later = refl
choice_last tree vp (row ∷ rows) last later = rw (choice_last tree vp rows last later) refl

-- ## The choice in words

module _ (tree : Tree) (vp : ℕ) where
  abbrev depth : Place → ℕ
  depth p = depth_of tree p.list

  -- who outranks another is before it
  ranked_before : (a b : Place) → outranks tree a b ≡ true → IsBefore tree a b
  ranked_before a b h = by (ltb b.priority a.priority) refl (eqb a.priority b.priority) refl h
    where
      by : (p : Bool) → ltb b.priority a.priority ≡ p → (q : Bool) → eqb a.priority b.priority ≡ q → p || (q && ltb (depth b) (depth a)) ≡ true → IsBefore tree a b
      by true l q e h = inl (ltb-true b.priority a.priority l)
      by false l true e h = inr (sym (eqb-true a.priority b.priority e), inl (ltb-true (depth b) (depth a) h))
      by false l false e h = absurd (cc h)

  -- who came before another that doesn't outrank it is before it
  came_before : (a b : Place) → outranks tree b a ≡ false → a.arrival < b.arrival → IsBefore tree a b
  came_before a b h came = by (ltb a.priority b.priority) refl (eqb b.priority a.priority) refl (ltb (depth a) (depth b)) refl h
    where
      by : (p : Bool) → ltb a.priority b.priority ≡ p → (q : Bool) → eqb b.priority a.priority ≡ q → (d : Bool) → ltb (depth a) (depth b) ≡ d → p || (q && d) ≡ false → IsBefore tree a b
      by true l q e d g h = absurd (cc h)
      by false l true e true g h = absurd (cc h)
      by false l true e false g h = inr (
        eqb-true b.priority a.priority e,
        by_eq (depth b) (depth a) (λ same. inr (same, omega (arith, came))) (λ other. inl (omega (arith, other, ltb-false (depth a) (depth b) g))),
      )
      by false l false e d g h = inl (omega (arith, ltb-false a.priority b.priority l, eqb-false b.priority a.priority e))

  before_trans : (a b c : Place) → IsBefore tree a b → IsBefore tree b c → IsBefore tree a c
  before_trans a b c (inl x) (inl y) = inl (omega (arith, x, y))
  before_trans a b c (inl x) (inr y) = inl (omega (arith, x, y.0))
  before_trans a b c (inr x) (inl y) = inl (omega (arith, x.0, y))
  before_trans a b c (inr (p, inl x)) (inr (q, inl y)) = inr (q ∙ p, inl (omega (arith, x, y)))
  before_trans a b c (inr (p, inl x)) (inr (q, inr y)) = inr (q ∙ p, inl (omega (arith, x, y.0)))
  before_trans a b c (inr (p, inr x)) (inr (q, inl y)) = inr (q ∙ p, inl (omega (arith, x.0, y)))
  before_trans a b c (inr (p, inr x)) (inr (q, inr y)) = inr (q ∙ p, inr (y.0 ∙ x.0, omega (arith, x.1, y.1)))

  before_self : (a : Place) → IsBefore tree a a
  before_self a = inr (refl, inr (refl, omega arith))

  all_trans : (a b : Place) (rows : List Row) → IsBefore tree a b → IsBeforeAll tree vp b rows → IsBeforeAll tree vp a rows
  all_trans a b [] h k = tt
  all_trans a b (row ∷ rows) h k = (λ c. before_trans a b row.1 h (k.0 c), all_trans a b rows h k.1)

  -- where no list has an entity, each is before all
  all_none : (a : Place) (rows : List Row) → has_ready tree vp rows ≡ false → IsBeforeAll tree vp a rows
  all_none a [] h = tt
  all_none a (row ∷ rows) h = by (covers tree vp row.1.list) refl h (all_none a rows)
    where
      by : (v : Bool) → covers tree vp row.1.list ≡ v → cond v true (has_ready tree vp rows) ≡ false → (has_ready tree vp rows ≡ false → IsBeforeAll tree vp a rows) → IsBeforeAll tree vp a (row ∷ rows)
      by true c h more = absurd (cc h)
      by false c h more = (λ d. absurd (cc (c, d)), more h)

  after_in : (k : ℕ) (r : Row) (rows : List Row) → AreAfter k rows → IsIn r rows → k < r.1.arrival
  after_in k r [] a i = absurd i
  after_in k r (row ∷ rows) a (inl e) = rw e a.0
  after_in k r (row ∷ rows) a (inr i) = after_in k r rows a.1 i

  none_of : (first : Place × Entity) (o : Option (Place × Entity)) → chosen_of tree first o ≡ None → ⊥
  none_of first None h = cc h
  none_of first (Some later) h = by (outranks tree later.0 first.0) h
    where
      by : (v : Bool) → cond v (Some later) (Some first) ≡ None → ⊥
      by true h = cc h
      by false h = cc h

  -- none is chosen exactly where no list has an entity
  pub none_chosen : (rows : List Row) → choice tree vp rows ≡ None → has_ready tree vp rows ≡ false
  none_chosen [] h = refl
  none_chosen (row ∷ rows) h = by (covers tree vp row.1.list) h (none_chosen rows)
    where
      by : (v : Bool) → cond v (chosen_of tree (row.1, row.0) (choice tree vp rows)) (choice tree vp rows) ≡ None → (choice tree vp rows ≡ None → has_ready tree vp rows ≡ false) → cond v true (has_ready tree vp rows) ≡ false
      by true h more = absurd (none_of (row.1, row.0) (choice tree vp rows) h)
      by false h more = more h

  pub not_ready : (rows : List Row) → has_ready tree vp rows ≡ false → choice tree vp rows ≡ None
  not_ready [] h = refl
  not_ready (row ∷ rows) h = by (covers tree vp row.1.list) h (not_ready rows)
    where
      by : (v : Bool) → cond v true (has_ready tree vp rows) ≡ false → (has_ready tree vp rows ≡ false → choice tree vp rows ≡ None) → cond v (chosen_of tree (row.1, row.0) (choice tree vp rows)) (choice tree vp rows) ≡ None
      by true h more = absurd (cc h)
      by false h more = more h

  -- what is chosen is before all others of the lists that cover the processor
  pub chosen_is : (rows : List Row) (r : Place × Entity) → AreAscending rows → choice tree vp rows ≡ Some r → IsChosen tree vp r rows
  chosen_is [] r a h = absurd (cc h)
  chosen_is (row ∷ rows) r a h = by_cover (covers tree vp row.1.list) refl h (λ l. chosen_is rows l a.1)
    where
      by_rank : (l : Place × Entity) → IsChosen tree vp l rows → covers tree vp row.1.list ≡ true → (v : Bool) → outranks tree l.0 row.1 ≡ v → cond v (Some l) (Some (row.1, row.0)) ≡ Some r → IsChosen tree vp r (row ∷ rows)
      by_rank l k c true o h = subst (λ x. IsChosen tree vp x (row ∷ rows)) (same_Some l r h)
          (record { there = inr k.there; covered = k.covered; before = (λ _. ranked_before l.0 row.1 o, k.before) })
      by_rank l k c false o h = let first : IsBefore tree row.1 l.0 = came_before row.1 l.0 o (after_in row.1.arrival (l.1, l.0) rows a.0 k.there) in
          subst (λ x. IsChosen tree vp x (row ∷ rows)) (same_Some (row.1, row.0) r h)
          (record { there = inl refl; covered = c; before = (λ _. before_self row.1, all_trans row.1 l.0 rows first k.before) })

      by_later : (o : Option (Place × Entity)) → choice tree vp rows ≡ o → covers tree vp row.1.list ≡ true → chosen_of tree (row.1, row.0) o ≡ Some r → ((l : Place × Entity) → choice tree vp rows ≡ Some l → IsChosen tree vp l rows) → IsChosen tree vp r (row ∷ rows)
      by_later None e c h more = subst (λ x. IsChosen tree vp x (row ∷ rows)) (same_Some (row.1, row.0) r h)
          (record { there = inl refl; covered = c; before = (λ _. before_self row.1, all_none row.1 rows (none_chosen rows e)) })
      by_later (Some l) e c h more = by_rank l (more l e) c (outranks tree l.0 row.1) refl h

      by_cover : (v : Bool) → covers tree vp row.1.list ≡ v → cond v (chosen_of tree (row.1, row.0) (choice tree vp rows)) (choice tree vp rows) ≡ Some r → ((l : Place × Entity) → choice tree vp rows ≡ Some l → IsChosen tree vp l rows) → IsChosen tree vp r (row ∷ rows)
      by_cover true c h more = by_later (choice tree vp rows) refl c h more
      by_cover false c h more = let k = more r h in record { there = inr k.there; covered = k.covered; before = (λ d. absurd (cc (c, d)), k.before) }

  -- what is chosen stands on a list that covers the processor
  pub chosen_in : (rows : List Row) (r : Place × Entity) → choice tree vp rows ≡ Some r → IsIn (r.1, r.0) rows × (covers tree vp r.0.list ≡ true)
  chosen_in [] r h = absurd (cc h)
  chosen_in (row ∷ rows) r h = by_cover (covers tree vp row.1.list) refl h (chosen_in rows)
    where
      here : covers tree vp row.1.list ≡ true → Some (row.1, row.0) ≡ Some r → IsIn (r.1, r.0) (row ∷ rows) × (covers tree vp r.0.list ≡ true)
      here c h = subst (λ (x : Place × Entity). IsIn (x.1, x.0) (row ∷ rows) × (covers tree vp x.0.list ≡ true)) (same_Some (row.1, row.0) r h) (inl refl, c)

      by_later : (o : Option (Place × Entity)) → choice tree vp rows ≡ o → covers tree vp row.1.list ≡ true → chosen_of tree (row.1, row.0) o ≡ Some r
          → ((l : Place × Entity) → choice tree vp rows ≡ Some l → IsIn (l.1, l.0) rows × (covers tree vp l.0.list ≡ true)) → IsIn (r.1, r.0) (row ∷ rows) × (covers tree vp r.0.list ≡ true)
      by_later None e c h more = here c h
      by_later (Some l) e c h more =
          elim (outranks tree l.0 row.1) as (λ v. cond v (Some l) (Some (row.1, row.0)) ≡ Some r → IsIn (r.1, r.0) (row ∷ rows) × (covers tree vp r.0.list ≡ true)) [
            | true ↦ λ q. subst (λ (x : Place × Entity). IsIn (x.1, x.0) (row ∷ rows) × (covers tree vp x.0.list ≡ true)) (same_Some l r q) (let k = more l e in (inr k.0, k.1))
            | false ↦ λ q. here c q
          ] h

      by_cover : (v : Bool) → covers tree vp row.1.list ≡ v → cond v (chosen_of tree (row.1, row.0) (choice tree vp rows)) (choice tree vp rows) ≡ Some r
          → ((l : Place × Entity) → choice tree vp rows ≡ Some l → IsIn (l.1, l.0) rows × (covers tree vp l.0.list ≡ true)) → IsIn (r.1, r.0) (row ∷ rows) × (covers tree vp r.0.list ≡ true)
      by_cover true c h more = by_later (choice tree vp rows) refl c h more
      by_cover false c h more = let k = more r h in (inr k.0, k.1)
