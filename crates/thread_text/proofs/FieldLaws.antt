-- What is read is spelled so, and what is spelled so is read.
use Rattle.std.proofs.Common.{◌≡◌, ℕ, zero, suc, ◌+◌, ◌*◌, ◌^◌, ◌<◌, ◌≤◌, ◌%◌, ◌/◌, Bool, true, false, cond, ltb, List, [], ◌∷◌, ◌++◌, length, get_or, take, drop, Result, Ok, Err, refl, sym, ap, subst, ◌∙◌, append_assoc, arith}
use Rattle.std.proofs.lemmas.Bool.{ltb-false, le-ltb}
use Rattle.std.proofs.lemmas.List.{length-append, length-drop, take-append-drop, drop-drop, drop_at, get_or-drop}
use Rattle.std.proofs.Math.Nat.{div-div-eq-div-mul, pow-suc}
use Rattle.std.specs.Int.{byte_at, bytes_low_first}
use Rattle.byteorder.specs.Endian.{little_bytes, little_number, little_from}
use Rattle.byteorder.specs.Numbers.{little_from-cons, little_from-lt, little_number-reads_back, length-bytes_low_first}
use Rattle.thread_text.specs.Fields.{Fields, Blocks, Field, spelled, Obey, Fit, blocks_behind, Reading, behind, read}

abbrev pub IsBytes : List ℕ → Type 0
IsBytes bytes = (i : ℕ) → get_or bytes i 0 < 256

pub IsBytes-drop : (n : ℕ) (bytes : List ℕ) → IsBytes bytes → IsBytes (drop n bytes)
IsBytes-drop n bytes h i = rw get_or-drop (h (n + i))

-- ## The bytes of a number that was read are those that it was read from

byte_at-up : (i x : ℕ) → byte_at (suc i) x ≡ byte_at i (x / 256)
byte_at-up zero x = refl
byte_at-up (suc i) x = ap (λ y. y % 256) (ap (λ (p : ℕ). x / p) (pow-suc' 256 (suc i)) ∙ sym (div-div-eq-div-mul x 256 (256 ^ suc i)))
  where
    pow-suc' : (b k : ℕ) → b ^ suc k ≡ b * b ^ k
    pow-suc' b k = grind (arith, pow-suc b k)

bytes-up : (i k x : ℕ) → bytes_low_first (suc i) k x ≡ bytes_low_first i k (x / 256)
bytes-up i zero x = refl
bytes-up i (suc k) x = rw (byte_at-up i x, bytes-up (suc i) k x) refl

pub bytes_of_number : (n : ℕ) (xs : List ℕ) → n ≤ length xs → IsBytes xs → little_bytes n (little_number n xs) ≡ take n xs
bytes_of_number zero xs h fits = refl
bytes_of_number (suc n) [] h fits = absurd (omega arith)
bytes_of_number (suc n) (y ∷ ys) h fits =
    let first : y < 256 = fits 0 in
    let e : little_from 0 (suc n) (y ∷ ys) ≡ y + 256 * little_from 0 n ys = ap (λ (r : ℕ). y + 256 * r) (little_from-cons 0 n y ys) in
    let low : (y + 256 * little_from 0 n ys) % 256 ≡ y = omega arith in
    let high : (y + 256 * little_from 0 n ys) / 256 ≡ little_from 0 n ys = omega arith in
    rw (e, low, bytes-up 0 n (y + 256 * little_from 0 n ys), high) (ap (λ t. y ∷ t) (bytes_of_number n ys (omega arith) (λ i. fits (suc i))))

-- ## What is read is spelled so

-- what was read is the numbers in the bytes
pub record Takes (f : Fields) (bytes : List ℕ) (at : ℕ) (r : Reading) : Type 0 where
  pub obey : Obey f r.numbers
  pub fit : Fit f r.numbers
  pub text : drop at bytes ≡ spelled f r.numbers ++ drop r.at bytes
  pub blocks : r.blocks ≡ blocks_behind f r.numbers
  pub within : r.at ≤ length bytes

abbrev done : {A : Type 0} → A → Result A ℕ
done x = Ok x

ok_is : {A : Type 0} (x y : A) → done x ≡ done y → x ≡ y
ok_is x y e = cc

-- a field that was read, and what was read behind it
pub field_read : (width : ℕ) (rule : ℕ → Bool) (next : ℕ → Fields) (bytes : List ℕ) (at : ℕ) (r : Reading) → read (Field width rule next) bytes at ≡ Ok r
    → (at + width ≤ length bytes) × (rule (little_number width (drop at bytes)) ≡ true)
    × ((s : Reading) × (read (next (little_number width (drop at bytes))) bytes (at + width) ≡ Ok s) × (r ≡ record s { numbers = little_number width (drop at bytes) ∷ s.numbers }))
unfolding read
field_read width rule next bytes at r e = step (ltb (length bytes) (at + width)) (rule (little_number width (drop at bytes))) refl refl e
  where
    n : ℕ
    n = little_number width (drop at bytes)

    last : (got : Result Reading ℕ) → behind n got ≡ Ok r → (s : Reading) × (got ≡ Ok s) × (r ≡ record s { numbers = n ∷ s.numbers })
    last (Ok s) e = (s, refl, sym (ok_is _ _ e))
    last (Err o) e = absurd cc

    step : (short obeys : Bool) → ltb (length bytes) (at + width) ≡ short → rule n ≡ obeys
        → cond short (Err (length bytes)) (cond obeys (behind n (read (next n) bytes (at + width))) (Err at)) ≡ Ok r
        → (at + width ≤ length bytes) × (rule n ≡ true) × ((s : Reading) × (read (next n) bytes (at + width) ≡ Ok s) × (r ≡ record s { numbers = n ∷ s.numbers }))
    step true obeys s o e = absurd cc
    step false false s o e = absurd cc
    step false true s o e = (ltb-false _ _ s, o, last _ e)

joined : (width at : ℕ) (bytes others rest : List ℕ) → at + width ≤ length bytes → IsBytes bytes → drop (at + width) bytes ≡ others ++ rest
    → drop at bytes ≡ (little_bytes width (little_number width (drop at bytes)) ++ others) ++ rest
joined width at bytes others rest within fits e =
    let front = bytes_of_number width (drop at bytes) (omega (arith, length-drop at bytes)) (IsBytes-drop at bytes fits) in
    sym (take-append-drop width (drop at bytes)) ∙ ap (λ (a : List ℕ). a ++ drop width (drop at bytes)) (sym front)
    ∙ ap (λ (b : List ℕ). little_bytes width (little_number width (drop at bytes)) ++ b) (drop-drop width at bytes ∙ e)
    ∙ sym (append_assoc (little_bytes width (little_number width (drop at bytes))) others rest)

pub takes : (f : Fields) (bytes : List ℕ) (at : ℕ) (r : Reading) → IsBytes bytes → at ≤ length bytes → read f bytes at ≡ Ok r → Takes f bytes at r
unfolding read Obey Fit spelled blocks_behind
takes (Blocks count) bytes at r fits within e =
    subst (λ (r : Reading). Takes (Blocks count) bytes at r) (ok_is _ r e) (record { obey = tt; fit = tt; text = refl; blocks = refl; within = within })
takes (Field width rule next) bytes at r fits within e =
    let f = field_read width rule next bytes at r e in
    let n = little_number width (drop at bytes) in
    let s = f.2.0 in
    let t = takes (next n) bytes (at + width) s fits f.0 f.2.1 in
    subst (λ (r : Reading). Takes (Field width rule next) bytes at r) (sym f.2.2) (record {
      obey = (f.1, t.obey);
      fit = (little_from-lt 0 width (drop at bytes) (IsBytes-drop at bytes fits), t.fit);
      text = joined width at bytes (spelled (next n) s.numbers) (drop s.at bytes) f.0 fits t.text;
      blocks = t.blocks;
      within = t.within;
    })

-- ## What is spelled is read again

-- a field whose number obeys its rule, and what is read behind it
pub field_again : (width : ℕ) (rule : ℕ → Bool) (next : ℕ → Fields) (bytes : List ℕ) (at n : ℕ) → at + width ≤ length bytes → little_number width (drop at bytes) ≡ n → rule n ≡ true
    → read (Field width rule next) bytes at ≡ behind n (read (next n) bytes (at + width))
unfolding read
field_again width rule next bytes at n within number obeys = rw (le-ltb _ _ within, number, obeys) refl

pub again : (f : Fields) (ns front rest : List ℕ) → Obey f ns → Fit f ns
    → read f (front ++ (spelled f ns ++ rest)) (length front) ≡ Ok (record { numbers = ns; at = length front + length (spelled f ns); blocks = blocks_behind f ns })
unfolding read Obey Fit spelled blocks_behind
again (Blocks count) [] front rest obey fit = ap (λ at. Ok (record { numbers = []; at = at; blocks = count })) (omega arith)
again (Blocks count) (n ∷ ns) front rest obey fit = absurd obey
again (Field width rule next) [] front rest obey fit = absurd obey
again (Field width rule next) (n ∷ ns) front rest obey fit =
    let number = little_bytes width n in
    let others = spelled (next n) ns in
    let len : length number ≡ width = length-bytes_low_first 0 width n in
    let bytes = front ++ ((number ++ others) ++ rest) in
    let regrouped : bytes ≡ (front ++ number) ++ (others ++ rest) = simp append_assoc in
    let within : length front + width ≤ length bytes = simp (length-append) (omega (arith, len)) in
    let stands : drop (length front) bytes ≡ number ++ (others ++ rest) = drop_at front ((number ++ others) ++ rest) (length front) refl ∙ append_assoc number others rest in
    let value : little_number width (drop (length front) bytes) ≡ n = ap (little_number width) stands ∙ little_number-reads_back width n (others ++ rest) fit.0 in
    let further : length front + width ≡ length (front ++ number) = simp length-append (omega (arith, len)) in
    field_again width rule next bytes (length front) n within value obey.0
    ∙ ap (behind n) (ap (λ b. read (next n) b (length front + width)) regrouped ∙ ap (read (next n) ((front ++ number) ++ (others ++ rest))) further ∙ again (next n) ns (front ++ number) rest obey.1 fit.1)
    ∙ ap (λ at. Ok (record { numbers = n ∷ ns; at = at; blocks = blocks_behind (next n) ns })) (simp length-append (omega arith))
