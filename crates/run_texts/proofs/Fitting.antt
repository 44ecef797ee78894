-- The acts of a schedule are not too many, and each is in range.
use Rattle.std.proofs.Common.{◌≡◌, ℕ, suc, ◌+◌, ◌<◌, ◌≤◌, List, [], ◌∷◌, length, Option, Some, None, Ok, Err, Bool, true, false, cond, refl, subst, arith}
use Rattle.std.specs.Prelude.{⊤, option_and_then, option_map, ◌==◌, ◌&&◌, IfSome, nat_le, nat_lt, codes}
use Rattle.std.proofs.lemmas.Bool.Decides.{nat_tests}
use Rattle.std.specs.Str.{bytes_eq}
use Rattle.std.specs.Str.Lines.{strip_carriage_return}
use Rattle.std.specs.Str.Parse.{digits_value}
use Rattle.slot_space.specs.declared.names.Tid.{Tid}
use Rattle.run_trace.specs.declared.entry.Act.{Act}
use Rattle.run_trace.specs.declared.entry.Act.TheVariants as act
use Rattle.run_texts.specs.declared.act.Said.{Said}
use Rattle.run_texts.specs.declared.act.Said.TheVariants as said
use Rattle.run_texts.specs.declared.schedule.Scheduled.{Scheduled}
use Rattle.run_texts.specs.Parts.{Text, onto, parts_of, lines_of, number_in, is_number, within, words_of}
use Rattle.run_texts.specs.Acts.{tid_in, run_in, take_in, move_in, act_in, said_act, said_node, said_words, said_from, said_plainly, said_in}
use Rattle.run_texts.specs.Fitting.{IsActOf, AreActsOf}
use Rattle.run_texts.specs.Schedules.{Reading, most_acts, at_front, goes_on, acts_from, schedule_of}

-- ## Lines

fewer : (b : ℕ) (ps : List Text) (n : ℕ) → length ps ≤ n → length (onto b ps) ≤ suc n
fewer b [] n l = omega (arith)
fewer b (p ∷ ps) n l = omega (arith, l)

pub few_lines : (text : Text) → length (lines_of text) ≤ length text
few_lines [] = omega arith
few_lines (b ∷ bs) = by (b == 10) (few_lines bs)
  where
    by : (v : Bool) → length (parts_of 10 bs) ≤ length bs → length (cond v ([] ∷ parts_of 10 bs) (onto b (parts_of 10 bs))) ≤ suc (length bs)
    by true l = omega (arith, l)
    by false l = fewer b (parts_of 10 bs) (length bs) l

-- ## Numbers

in_bounds : (low below n : ℕ) → IfSome (within low below n) (λ m. (low ≤ m) × (m < below))
in_bounds low below n = by (nat_le low n) (nat_lt n below) refl refl
  where
    by : (v w : Bool) → nat_le low n ≡ v → nat_lt n below ≡ w → IfSome (cond (v && w) (Some n) None) (λ m. (low ≤ m) × (m < below))
    by true true e f = (grind (arith, nat_tests), grind (arith, nat_tests))
    by true false e f = tt
    by false w e f = tt

number_bounds : (low below : ℕ) (text : Text) → IfSome (number_in low below text) (λ m. (low ≤ m) × (m < below))
unfolding number_in
number_bounds low below text = by (is_number text)
  where
    by : (v : Bool) → IfSome (cond v (within low below (digits_value 10 text)) None) (λ m. (low ≤ m) × (m < below))
    by true = in_bounds low below (digits_value 10 text)
    by false = tt

some_bounds : (low below : ℕ) (text : Text) (n : ℕ) → number_in low below text ≡ Some n → (low ≤ n) × (n < below)
some_bounds low below text n is = subst (λ o. IfSome o (λ m. (low ≤ m) × (m < below))) is (number_bounds low below text)

-- ## A line

module _ (nodes processors : ℕ) where
  -- an act that a line says is in range
  abbrev IsFine : Said → Type 0
  IsFine said.Nothing = ⊤
  IsFine said.Bad = ⊤
  IsFine (said.Act node a) = (node < nodes) × IsActOf nodes processors node a

  run_fine : (node : ℕ) (words : List Text) → node < nodes → IsFine (said_act node (run_in processors words))
  run_fine node [] l = tt
  run_fine node (vp ∷ []) l = tt
  run_fine node (vp ∷ quantum ∷ x ∷ rest) l = tt
  run_fine node (vp ∷ quantum ∷ []) l = by (number_in 0 processors vp) (number_in 1 65537 quantum) (number_bounds 0 processors vp) (number_bounds 1 65537 quantum)
    where
      by : (v q : Option ℕ) → IfSome v (λ m. (0 ≤ m) × (m < processors)) → IfSome q (λ m. (1 ≤ m) × (m < 65537)) → IsFine (said_act node (option_and_then (λ w. option_map (λ k. act.Run w k) q) v))
      by None q h k = tt
      by (Some w) None h k = tt
      by (Some w) (Some n) h k = (l, (h.1, k.0, omega (arith, k.1)))

  take_fine : (node : ℕ) (words : List Text) → node < nodes → IsFine (said_act node (take_in nodes words))
  take_fine node [] l = tt
  take_fine node (sender ∷ x ∷ rest) l = tt
  take_fine node (sender ∷ []) l = by (number_in 0 nodes sender) (number_bounds 0 nodes sender)
    where
      by : (o : Option ℕ) → IfSome o (λ m. (0 ≤ m) × (m < nodes)) → IsFine (said_act node (option_map act.Take o))
      by None h = tt
      by (Some n) h = (l, h.1)

  move_fine : (node : ℕ) (words : List Text) → node < nodes → IsFine (said_act node (move_in nodes node words))
  move_fine node [] l = tt
  move_fine node (t ∷ []) l = tt
  move_fine node (t ∷ to ∷ x ∷ rest) l = tt
  move_fine node (t ∷ to ∷ []) l = by (tid_in nodes t) (number_in 0 nodes to) (number_bounds 0 nodes to)
    where
      other : (thread : Tid) (n : ℕ) (v : Bool) → n == node ≡ v → n < nodes → IsFine (said_act node (cond v None (Some (act.Move thread n))))
      other thread n true e below = tt
      other thread n false e below = (l, (below, grind (arith, nat_tests)))

      by : (thread : Option Tid) (o : Option ℕ) → IfSome o (λ m. (0 ≤ m) × (m < nodes))
          → IsFine (said_act node (option_and_then (λ t. option_and_then (λ n. cond (n == node) None (Some (act.Move t n))) o) thread))
      by None o h = tt
      by (Some thread) None h = tt
      by (Some thread) (Some n) h = other thread n (n == node) refl h.1

  act_fine : (node : ℕ) (name : Text) (words : List Text) → node < nodes → IsFine (said_act node (act_in nodes processors node name words))
  act_fine node name words l = by (bytes_eq name (codes "run")) (bytes_eq name (codes "take")) (bytes_eq name (codes "move"))
    where
      by : (r t m : Bool) → IsFine (said_act node (cond r (run_in processors words) (cond t (take_in nodes words) (cond m (move_in nodes node words) None))))
      by true t m = run_fine node words l
      by false true m = take_fine node words l
      by false false true = move_fine node words l
      by false false false = tt

  words_fine : (words : List Text) → IsFine (said_words nodes processors words)
  words_fine [] = tt
  words_fine (name ∷ []) = tt
  words_fine (name ∷ node ∷ words) = by (number_in 0 nodes node) (number_bounds 0 nodes node)
    where
      by : (o : Option ℕ) → IfSome o (λ m. (0 ≤ m) × (m < nodes)) → IsFine (said_node nodes processors name o words)
      by None h = tt
      by (Some n) h = act_fine n name words h.1

  line_fine : (line : Text) → IsFine (said_in nodes processors line)
  line_fine line = plainly (strip_carriage_return line)
    where
      behind : (first : ℕ) (words : List Text) → IsFine (said_from nodes processors first words)
      behind first [] = tt
      behind first (w ∷ ws) = by (first == 32)
        where
          by : (v : Bool) → IsFine (cond v said.Bad (said_words nodes processors (w ∷ ws)))
          by true = tt
          by false = words_fine (w ∷ ws)

      plainly : (text : Text) → IsFine (said_plainly nodes processors text)
      plainly [] = tt
      plainly (b ∷ bs) = by (b == 35)
        where
          by : (v : Bool) → IsFine (cond v said.Nothing (said_from nodes processors b (words_of (b ∷ bs))))
          by true = tt
          by false = behind b (words_of (b ∷ bs))

  -- ## All lines

  -- acts behind so many others are not too many, and in range
  abbrev AreFine : ℕ → Reading → Type 0
  AreFine before (Ok acts) = (before + length acts ≤ most_acts) × AreActsOf nodes processors acts
  AreFine before (Err line) = ⊤

  one_more : (before line node : ℕ) (a : Act) (rest : Reading) → (node < nodes) × IsActOf nodes processors node a → AreFine (before + 1) rest → AreFine before (at_front (record { line = line; node = node; act = a }) rest)
  one_more before line node a (Ok acts) h more = (omega (arith, more.0), (h.0, h.1, more.1))
  one_more before line node a (Err bad) h more = tt

  lines_fine : (line before : ℕ) (ls : List Text) → before ≤ most_acts → AreFine before (acts_from nodes processors line before ls)
  lines_fine line before [] l = (omega (arith, l), tt)
  lines_fine line before (x ∷ xs) l = by (said_in nodes processors x) (line_fine x) (λ n m. lines_fine (line + 1) n xs m)
    where
      by : (s : Said) → IsFine s → ((n : ℕ) → n ≤ most_acts → AreFine n (acts_from nodes processors (line + 1) n xs)) → AreFine before (goes_on line before s (λ n. acts_from nodes processors (line + 1) n xs))
      by said.Nothing h rest = rest before l
      by said.Bad h rest = tt
      by (said.Act node a) h rest = few (nat_lt before most_acts) refl
        where
          few : (v : Bool) → nat_lt before most_acts ≡ v → AreFine before (cond v (at_front (record { line = line; node = node; act = a }) (acts_from nodes processors (line + 1) (before + 1) xs)) (Err line))
          few true e = one_more before line node a (acts_from nodes processors (line + 1) (before + 1) xs) h (rest (before + 1) (grind (arith, nat_tests)))
          few false e = tt

  -- the acts of a schedule are not too many, and in range
  pub acts_fine : (text : Text) (acts : List Scheduled) → schedule_of nodes processors text ≡ Ok acts → (length acts ≤ most_acts) × AreActsOf nodes processors acts
  unfolding schedule_of
  acts_fine text acts is =
      let fine : AreFine 0 (Ok acts) = subst (λ r. AreFine 0 r) is (lines_fine 1 0 (lines_of text) (omega arith)) in
      (omega (arith, fine.0), fine.1)
