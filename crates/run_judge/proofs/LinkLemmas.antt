-- What a packet that goes or comes makes of the links.
use Rattle.std.proofs.Common.{◌≡◌, ℕ, zero, suc, ◌<◌, inl, inr, List, [], ◌∷◌, ◌++◌, Some, true, false, cond, eqb, ◌&&◌, refl, sym, ap, ◌∙◌, subst, arith, length, get_or}
use Rattle.std.specs.List.{remove}
use Rattle.std.proofs.lemmas.Bool.{eqb-true, and_parts, cases_Bool, cond-true, cond-false}
use Rattle.run_trace.specs.declared.entry.Act.TheVariants.{Take}
use Rattle.run_trace.specs.declared.packet.Packet.{Packet}
use Rattle.run_trace.specs.declared.packet.Send.{Send}
use Rattle.run_trace.specs.Links.{first_of, rest_of, packets_to}
use Rattle.run_judge.specs.declared.flights.Flight.{Flight}
use Rattle.run_judge.specs.Links.{is_on, link_of, flights_of}
use Rattle.run_judge.specs.Nets.{LeftBy}

pub link_append : (fs gs : List Flight) (i j : ℕ) → link_of (fs ++ gs) i j ≡ link_of fs i j ++ link_of gs i j
link_append [] gs i j = refl
link_append (f ∷ fs) gs i j = elim (is_on i j f) as (λ b. cond b (f.packet ∷ link_of (fs ++ gs) i j) (link_of (fs ++ gs) i j) ≡ cond b (f.packet ∷ link_of fs i j) (link_of fs i j) ++ link_of gs i j)
    [ true ↦ ap (λ ps. f.packet ∷ ps) (link_append fs gs i j) | false ↦ link_append fs gs i j ]

pub link_sent : (from stamp : ℕ) (sends : List Send) (i j : ℕ) → link_of (flights_of from stamp sends) i j ≡ cond (eqb from i) (packets_to j stamp sends) []
link_sent from stamp [] i j = elim (eqb from i) as (λ b. [] ≡ cond {A = List Packet} b [] []) [ true ↦ refl | false ↦ refl ]
link_sent from stamp (s ∷ ss) i j =
    let p : Packet = record { stamp = stamp; body = s.body } in
    let rec : link_of (flights_of from stamp ss) i j ≡ cond (eqb from i) (packets_to j stamp ss) [] = link_sent from stamp ss i j in
    elim (eqb from i) as (λ b. link_of (flights_of from stamp ss) i j ≡ cond b (packets_to j stamp ss) [] → cond (b && eqb s.to j) (p ∷ link_of (flights_of from stamp ss) i j) (link_of (flights_of from stamp ss) i j) ≡ cond b (cond (eqb s.to j) (p ∷ packets_to j stamp ss) (packets_to j stamp ss)) []) [
      | true ↦ λ r. elim (eqb s.to j) as (λ t. cond t (p ∷ link_of (flights_of from stamp ss) i j) (link_of (flights_of from stamp ss) i j) ≡ cond t (p ∷ packets_to j stamp ss) (packets_to j stamp ss)) [ true ↦ ap (λ ps. p ∷ ps) r | false ↦ r ]
      | false ↦ λ r. r
    ] rec

-- ## Taking

pub record Takes (i j : ℕ) (old new : List Flight) (packet : Packet) : Type 0 where
  pub first : first_of (link_of old i j) ≡ Some packet
  pub rest : link_of new i j ≡ rest_of (link_of old i j)
  pub others : (a b : ℕ) → (i ≡ a → j ≡ b → ⊥) → link_of new a b ≡ link_of old a b

not_on : (i j a b : ℕ) (f : Flight) → is_on i j f ≡ true → (i ≡ a → j ≡ b → ⊥) → is_on a b f ≡ true → ⊥
not_on i j a b f h n k =
    let x : (eqb f.from i ≡ true) × (eqb f.to j ≡ true) = and_parts (eqb f.from i) (eqb f.to j) h in
    let y : (eqb f.from a ≡ true) × (eqb f.to b ≡ true) = and_parts (eqb f.from a) (eqb f.to b) k in
    n (sym (eqb-true f.from i x.0) ∙ eqb-true f.from a y.0) (sym (eqb-true f.to j x.1) ∙ eqb-true f.to b y.1)

link_step : (a b : ℕ) (f : Flight) (fs gs : List Flight) → link_of fs a b ≡ link_of gs a b → link_of (f ∷ fs) a b ≡ link_of (f ∷ gs) a b
link_step a b f fs gs e = ap (λ ps. cond (is_on a b f) (f.packet ∷ ps) ps) e

pub takes : (i j : ℕ) (fs : List Flight) (k : ℕ) (d : Flight) → k < length fs → is_on i j (get_or fs k d) ≡ true
    → ((m : ℕ) → m < k → is_on i j (get_or fs m d) ≡ false) → Takes i j fs (remove fs k) (get_or fs k d).packet
takes i j [] k d l h n = absurd (omega arith)
takes i j (f ∷ fs) zero d l h n = record {
  first = ap first_of (cond-true (is_on i j f) (f.packet ∷ link_of fs i j) (link_of fs i j) h);
  rest = sym (ap rest_of (cond-true (is_on i j f) (f.packet ∷ link_of fs i j) (link_of fs i j) h));
  others = λ a b ne. elim (cases_Bool (is_on a b f)) as (λ _. link_of fs a b ≡ link_of (f ∷ fs) a b) [
    | inl t ↦ absurd (not_on i j a b f h ne t)
    | inr e ↦ sym (cond-false (is_on a b f) (f.packet ∷ link_of fs a b) (link_of fs a b) e)
  ];
}
takes i j (f ∷ fs) (suc k) d l h n =
    let rec : Takes i j fs (remove fs k) (get_or fs k d).packet = takes i j fs k d (omega arith) h (λ m q. n (suc m) (omega arith)) in
    let here : is_on i j f ≡ false = n zero (omega arith) in
    let old : link_of (f ∷ fs) i j ≡ link_of fs i j = cond-false (is_on i j f) (f.packet ∷ link_of fs i j) (link_of fs i j) here in
    let new : link_of (f ∷ remove fs k) i j ≡ link_of (remove fs k) i j = cond-false (is_on i j f) (f.packet ∷ link_of (remove fs k) i j) (link_of (remove fs k) i j) here in
    record {
      first = ap first_of old ∙ rec.first;
      rest = new ∙ rec.rest ∙ sym (ap rest_of old);
      others = λ a b ne. link_step a b f (remove fs k) fs (rec.others a b ne);
    }

pub none_on : (i j : ℕ) (fs : List Flight) → ((m : ℕ) (d : Flight) → m < length fs → is_on i j (get_or fs m d) ≡ false) → link_of fs i j ≡ []
none_on i j [] n = refl
none_on i j (f ∷ fs) n = cond-false (is_on i j f) (f.packet ∷ link_of fs i j) (link_of fs i j) (n zero f (omega arith)) ∙ none_on i j fs (λ m d l. n (suc m) d (omega arith))

-- what is left on each link, in the definition's words
pub left_taken : (i j : ℕ) (old new : List Flight) (packet : Packet) → Takes i j old new packet → LeftBy j (Take i) old new
left_taken i j old new packet t a b =
    elim (cases_Bool (eqb j b)) as (λ _. link_of new a b ≡ cond (eqb j b) (cond (eqb i a) (rest_of (link_of old a b)) (link_of old a b)) (link_of old a b)) [
      | inl x ↦ elim (cases_Bool (eqb i a)) as (λ _. link_of new a b ≡ cond (eqb j b) (cond (eqb i a) (rest_of (link_of old a b)) (link_of old a b)) (link_of old a b)) [
        | inl y ↦ let here : link_of new a b ≡ rest_of (link_of old a b) = subst (λ m. link_of new m b ≡ rest_of (link_of old m b)) (eqb-true i a y) (subst (λ m. link_of new i m ≡ rest_of (link_of old i m)) (eqb-true j b x) t.rest) in
            rw (x, y) here
        | inr y ↦ let ne : i ≡ a → j ≡ b → ⊥ = λ e g. other i a e y in rw (x, y) (t.others a b ne)
      ]
      | inr x ↦ let ne : i ≡ a → j ≡ b → ⊥ = λ e g. other j b g x in rw x (t.others a b ne)
    ]
  where
    other : (m n : ℕ) → m ≡ n → eqb m n ≡ false → ⊥
    other m n e f = grind (arith, e, f)

pub left_none : (i j : ℕ) (fs : List Flight) → link_of fs i j ≡ [] → LeftBy j (Take i) fs fs
left_none i j fs h a b =
    elim (cases_Bool (eqb j b)) as (λ _. link_of fs a b ≡ cond (eqb j b) (cond (eqb i a) (rest_of (link_of fs a b)) (link_of fs a b)) (link_of fs a b)) [
      | inl x ↦ elim (cases_Bool (eqb i a)) as (λ _. link_of fs a b ≡ cond (eqb j b) (cond (eqb i a) (rest_of (link_of fs a b)) (link_of fs a b)) (link_of fs a b)) [
        | inl y ↦ let none : link_of fs a b ≡ [] = subst (λ m. link_of fs m b ≡ []) (eqb-true i a y) (subst (λ m. link_of fs i m ≡ []) (eqb-true j b x) h) in
            rw (x, y) (none ∙ sym (ap rest_of none))
        | inr y ↦ rw (x, y) refl
      ]
      | inr x ↦ rw x refl
    ]
