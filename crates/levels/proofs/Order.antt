-- Rows that come and go keep the order of arrival.
use Rattle.std.proofs.Common.{◌≡◌, ℕ, suc, ◌-◌, ◌^◌, ◌<◌, ◌≤◌, true, false, List, [], ◌∷◌, ◌++◌, length, cond, refl, arith, length-append}
use Rattle.levels.specs.declared.entity.Entity.{Entity}
use Rattle.levels.specs.Rows.{Row, RunLists, AreAfter, AreAscending, AreBefore, AreInOrder, is_entity, without, arrived, taken_off, place_at}

before_more : (k : ℕ) (rows : List Row) → AreBefore k rows → AreBefore (suc k) rows
before_more k [] b = tt
before_more k (row ∷ rows) b = (omega (arith, b.0), before_more k rows b.1)

before_pushed : (k : ℕ) (rows : List Row) (last : Row) → AreBefore k rows → last.1.arrival ≡ k → AreBefore (suc k) (rows ++ last ∷ [])
before_pushed k [] last b h = (omega (arith, h), tt)
before_pushed k (row ∷ rows) last b h = (omega (arith, b.0), before_pushed k rows last b.1 h)

after_pushed : (k : ℕ) (rows : List Row) (last : Row) → AreAfter k rows → k < last.1.arrival → AreAfter k (rows ++ last ∷ [])
after_pushed k [] last a h = (h, tt)
after_pushed k (row ∷ rows) last a h = (a.0, after_pushed k rows last a.1 h)

ascending_pushed : (rows : List Row) (last : Row) → AreAscending rows → AreBefore last.1.arrival rows → AreAscending (rows ++ last ∷ [])
ascending_pushed [] last a b = (tt, tt)
ascending_pushed (row ∷ rows) last a b = (after_pushed row.1.arrival rows last a.0 b.0, ascending_pushed rows last a.1 b.1)

after_without : (k : ℕ) (e : Entity) (rows : List Row) → AreAfter k rows → AreAfter k (without e rows)
after_without k e [] a = tt
after_without k e (row ∷ rows) a = elim (is_entity row.0 e) as (λ v. AreAfter k (cond v rows (row ∷ without e rows))) [ true ↦ a.1 | false ↦ (a.0, after_without k e rows a.1) ]

before_without : (k : ℕ) (e : Entity) (rows : List Row) → AreBefore k rows → AreBefore k (without e rows)
before_without k e [] b = tt
before_without k e (row ∷ rows) b = elim (is_entity row.0 e) as (λ v. AreBefore k (cond v rows (row ∷ without e rows))) [ true ↦ b.1 | false ↦ (b.0, before_without k e rows b.1) ]

ascending_without : (e : Entity) (rows : List Row) → AreAscending rows → AreAscending (without e rows)
ascending_without e [] a = tt
ascending_without e (row ∷ rows) a =
    elim (is_entity row.0 e) as (λ v. AreAscending (cond v rows (row ∷ without e rows)))
    [ true ↦ a.1 | false ↦ (after_without row.1.arrival e rows a.0, ascending_without e rows a.1) ]

length_without : (e : Entity) (rows : List Row) → length (without e rows) ≤ length rows
length_without e [] = omega arith
length_without e (row ∷ rows) =
    elim (is_entity row.0 e) as (λ v. length (cond v rows (row ∷ without e rows)) ≤ length (row ∷ rows)) [ true ↦ omega arith | false ↦ omega (arith, length_without e rows) ]

-- in the order of their arrival, all before the next
pub record AreRising (s : RunLists) : Type 0 where
  pub ascending : AreAscending s.rows
  pub arrived : AreBefore s.next s.rows

pub rising_arrived : (e : Entity) (list priority : ℕ) (s : RunLists) → AreRising s → AreRising (arrived e list priority s)
rising_arrived e list priority s o =
    let last : Row = (e, place_at list priority s.next) in
    record { ascending = ascending_pushed s.rows last o.ascending o.arrived; arrived = before_pushed s.next s.rows last o.arrived refl }

pub rising_without : (e : Entity) (s : RunLists) → AreRising s → AreRising (taken_off e s)
rising_without e s o = record { ascending = ascending_without e s.rows o.ascending; arrived = before_without s.next e s.rows o.arrived }

pub in_order_arrived : (e : Entity) (list priority : ℕ) (s : RunLists) → AreInOrder s → length s.rows < 2 ^ 32 - 1 → AreInOrder (arrived e list priority s)
in_order_arrived e list priority s o few =
    let k : AreRising (arrived e list priority s) = rising_arrived e list priority s (record { ascending = o.ascending; arrived = o.arrived }) in
    record { short = omega (arith, few, length-append s.rows ((e, place_at list priority s.next) ∷ [])); ascending = k.ascending; arrived = k.arrived }

pub in_order_without : (e : Entity) (s : RunLists) → AreInOrder s → AreInOrder (taken_off e s)
in_order_without e s o =
    let k : AreRising (taken_off e s) = rising_without e s (record { ascending = o.ascending; arrived = o.arrived }) in
    record { short = omega (arith, o.short, length_without e s.rows); ascending = k.ascending; arrived = k.arrived }
