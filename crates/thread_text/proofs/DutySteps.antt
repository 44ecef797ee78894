-- The fields of a duty, one after another, as a reader takes them.
use Rattle.std.proofs.Common.{◌≡◌, ℕ, zero, suc, Bool, true, leb, List, [], ◌∷◌, Result, Ok, refl, arith}
use Rattle.std.proofs.lemmas.Bool.{eqb-true}
use Rattle.thread_text.specs.Fields.{Fields, Field, Reading, number_at, read}
use Rattle.thread_text.specs.Grammar.{duty_fields, register_fields, is_call_node, is_call_number}
use Rattle.thread_text.specs.Reading.{behind_all}
use Rattle.thread_text.proofs.Steps.{goes_further}

-- what the first number may be
abbrev pub is_duty : ℕ → Bool
is_duty duty = leb duty 3

-- the fields behind the call's node, its number, its caller's count of births and home, and the duty
abbrev pub behind_at : ℕ → Fields
behind_at at = register_fields 31

abbrev pub behind_count : (duty count : ℕ) → Fields
behind_count duty count = Field 1 (is_call_node duty) behind_at

abbrev pub behind_seq : (duty seq : ℕ) → Fields
behind_seq duty seq = Field 4 (is_call_number duty) (behind_count duty)

abbrev pub behind_home : (duty home : ℕ) → Fields
behind_home duty home = Field 4 (is_call_number duty) (behind_seq duty)

abbrev pub behind_duty : ℕ → Fields
behind_duty duty = Field 1 (is_call_node duty) (behind_home duty)

abbrev pub whole : List ℕ → Result Reading ℕ
whole bytes = read duty_fields bytes 14

pub begin : (bytes : List ℕ) → whole bytes ≡ behind_all [] (read (Field 1 is_duty behind_duty) bytes 14)
unfolding duty_fields
begin bytes = refl

pub duty_read : (bytes : List ℕ) (duty : ℕ) → Ok duty ≡ number_at bytes 14 1 → is_duty duty ≡ true → whole bytes ≡ behind_all (duty ∷ []) (read (behind_duty duty) bytes 15)
duty_read bytes duty e obeys = goes_further 1 is_duty behind_duty bytes 14 duty [] (whole bytes) e obeys (begin bytes)

pub home_read : (bytes : List ℕ) (duty home : ℕ) → whole bytes ≡ behind_all (duty ∷ []) (read (behind_duty duty) bytes 15) → Ok home ≡ number_at bytes 15 1 → is_call_node duty home ≡ true
    → whole bytes ≡ behind_all (duty ∷ home ∷ []) (read (behind_home duty home) bytes 16)
home_read bytes duty home so_far e obeys = goes_further 1 (is_call_node duty) (behind_home duty) bytes 15 home (duty ∷ []) (whole bytes) e obeys so_far

pub seq_read : (bytes : List ℕ) (duty home seq : ℕ) → whole bytes ≡ behind_all (duty ∷ home ∷ []) (read (behind_home duty home) bytes 16) → Ok seq ≡ number_at bytes 16 4 → is_call_number duty seq ≡ true
    → whole bytes ≡ behind_all (duty ∷ home ∷ seq ∷ []) (read (behind_seq duty seq) bytes 20)
seq_read bytes duty home seq so_far e obeys = goes_further 4 (is_call_number duty) (behind_seq duty) bytes 16 seq (duty ∷ home ∷ []) (whole bytes) e obeys so_far

pub count_read : (bytes : List ℕ) (duty home seq count : ℕ) → whole bytes ≡ behind_all (duty ∷ home ∷ seq ∷ []) (read (behind_seq duty seq) bytes 20) → Ok count ≡ number_at bytes 20 4 → is_call_number duty count ≡ true
    → whole bytes ≡ behind_all (duty ∷ home ∷ seq ∷ count ∷ []) (read (behind_count duty count) bytes 24)
count_read bytes duty home seq count so_far e obeys = goes_further 4 (is_call_number duty) (behind_count duty) bytes 20 count (duty ∷ home ∷ seq ∷ []) (whole bytes) e obeys so_far

pub at_read : (bytes : List ℕ) (duty home seq count at : ℕ) → whole bytes ≡ behind_all (duty ∷ home ∷ seq ∷ count ∷ []) (read (behind_count duty count) bytes 24) → Ok at ≡ number_at bytes 24 1 → is_call_node duty at ≡ true
    → whole bytes ≡ behind_all (duty ∷ home ∷ seq ∷ count ∷ at ∷ []) (read (register_fields 31) bytes 25)
at_read bytes duty home seq count at so_far e obeys = goes_further 1 (is_call_node duty) behind_at bytes 24 at (duty ∷ home ∷ seq ∷ count ∷ []) (whole bytes) e obeys so_far

-- the numbers of the call of a thread that serves none
pub none_served : (duty home seq count at : ℕ) → is_call_node duty home ≡ true → is_call_number duty seq ≡ true → is_call_number duty count ≡ true → is_call_node duty at ≡ true
    → duty ≡ 0 → home ∷ seq ∷ count ∷ at ∷ [] ≡ 0 ∷ 0 ∷ 0 ∷ 0 ∷ []
none_served zero home seq count at h s c a e = rw (eqb-true home 0 h, eqb-true seq 0 s, eqb-true count 0 c, eqb-true at 0 a) refl
none_served (suc duty) home seq count at h s c a e = absurd (omega arith)
