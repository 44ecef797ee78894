-- The entries that are no beginnings, counted node by node, and the cluster that is put together.
use Rattle.std.proofs.Common.{◌≡◌, ℕ, suc, ◌+◌, ◌-◌, ◌^◌, ◌<◌, List, [], ◌∷◌, ◌++◌, length, reverse, drop, get_or, min, Bool, true, false, cond, not, eqb, refl, sym, ap, ◌∙◌, subst, arith}
use Rattle.std.specs.Prelude.{slice_get}
use Rattle.std.proofs.Math.Seq.{drop-cons}
use Rattle.std.proofs.lemmas.List.{reverse-append}
use Rattle.run_trace.specs.declared.entry.Entry.{Entry}
use Rattle.run_trace.specs.Histories.{Turn, own_entries}
use Rattle.run_trace.specs.declared.packet.Packet.{Packet}
use Rattle.run_trace.specs.Program.{Program}
use Rattle.wires.specs.declared.ends.Ends.{Ends}
use Rattle.wires.specs.Wires.{AreWired}
use Rattle.basics.proofs.Lemmas.{by_eq, by_less}
use Rattle.node_loop.specs.View.{NodeView}
use Rattle.cluster.specs.Apart.{Fits, HaveGoneOn, IsShell, StandsForMerge, turns_together}
use Rattle.cluster.specs.Between.{AllOf, AreNumbered, KeepNodes, SettlesAll, wires_in}
use Rattle.cluster.specs.Choosing.{IsCapped}
use Rattle.cluster.specs.Gathering.{entries_in}
use Rattle.cluster.specs.Standing.{entries_at, turn_in, turns_in}
use Rattle.cluster.specs.View.{ShellView, view_of}
use Rattle.cluster.proofs.Acting.{all_still}
use Rattle.cluster.proofs.Runs.{few_turns, none_own, others, own_gone, own_others}
use Rattle.cluster.proofs.TheRound.{Law}
use Rattle.cluster.proofs.Together as together
use Rattle.cluster.proofs.Together.{own_in, turns_joined}

turns_split : (n : ℕ) (xs : List Entry) → turns_in xs ≡ turns_in (own_entries n xs) + turns_in (others n xs)
turns_split n [] = refl
turns_split n (x ∷ xs) = by (eqb x.node n) (turns_split n xs)
  where
    by : (b : Bool) → turns_in xs ≡ turns_in (own_entries n xs) + turns_in (others n xs)
        → turn_in x.act + turns_in xs ≡ turns_in (cond b (x ∷ own_entries n xs) (own_entries n xs)) + turns_in (cond (not b) (x ∷ others n xs) (others n xs))
    by true e = omega (arith, e)
    by false e = omega (arith, e)

turns_reversed : (xs : List Entry) → turns_in (reverse xs) ≡ turns_in xs
turns_reversed [] = refl
turns_reversed (x ∷ xs) = ap turns_in (reverse-append (x ∷ []) xs) ∙ turns_joined (x ∷ []) (reverse xs) ∙ omega (arith, turns_reversed xs)

-- the nodes from the first of these on have all entries
turns_from : (vs : List NodeView) (first : ℕ) (xs : List Entry) → ((n : ℕ) → n < first → own_entries n xs ≡ [])
    → ((n : ℕ) → own_entries (first + n) xs ≡ reverse (entries_at (slice_get vs n))) → turns_together vs ≡ turns_in xs
turns_from [] first xs none own =
    let empty : xs ≡ [] = none_own xs (λ n. by_place n) in sym (ap turns_in empty)
  where
    by_place : (n : ℕ) → own_entries n xs ≡ []
    by_place n = by_less n first (λ l. none n l) (λ past. (let e : n ≡ first + (n - first) = omega (arith, past) in ap (λ m. own_entries m xs) e ∙ own (n - first)))
turns_from (v ∷ vs) first xs none own =
    omega (
      arith,
      turns_split first xs,
      ap turns_in (subst (λ m. own_entries m xs ≡ reverse v.entries) same (own 0)),
      turns_reversed v.entries,
      turns_from vs (suc first) (others first xs) fewer next,
    )
  where
    same : first + 0 ≡ first
    same = omega arith

    fewer : (n : ℕ) → n < suc first → own_entries n (others first xs) ≡ []
    fewer n l = by_eq n first (λ e. subst (λ m. own_entries m (others first xs) ≡ []) (sym e) (own_gone first xs)) (λ ne. own_others first n ne xs ∙ none n (omega (arith, l, ne)))

    next : (n : ℕ) → own_entries (suc first + n) (others first xs) ≡ reverse (entries_at (slice_get vs n))
    next n = let e : suc first + n ≡ first + suc n = omega arith in
        own_others first (suc first + n) (λ k. absurd (omega (arith, k))) xs ∙ ap (λ m. own_entries m xs) e ∙ own (suc n)

-- ## In the words of the code

pub counted_more : (vs : List NodeView) (i : ℕ) (v : NodeView) (so_far together count : ℕ) → i < length vs → v ≡ get_or vs i v → IsCapped together so_far → count ≡ turns_in v.entries
    → so_far + turns_together (drop i vs) ≡ turns_together vs
    → (more : ℕ) × IsCapped (min (together + count) (2 ^ 64 - 1)) more × (more + turns_together (drop (i + 1) vs) ≡ turns_together vs)
counted_more vs i v so_far together count l at cap e all =
    let next : i + 1 ≡ suc i = omega arith in
    let front : drop i vs ≡ v ∷ drop (suc i) vs = drop-cons vs i v l ∙ ap (λ u. u ∷ drop (suc i) vs) (sym at) in
    (so_far + count, omega (arith, cap), omega (arith, all, ap turns_together front, ap (λ k. turns_together (drop k vs)) next, e))

-- ## What is put together

module _ (shell : ShellView) (whole : IsShell shell) (ran : List NodeView) (f : Fits shell ran) (nodes : List NodeView) (h : SettlesAll shell.rest ran nodes)
    (law : Law) (made : ℕ) (cap : IsCapped made (turns_together ran)) where
  pub gathered : (before kept : List Entry) (began round : ℕ) (turns : ℕ → List Turn) → HaveGoneOn shell ran before kept began round turns
      → StandsForMerge (view_of shell.program made nodes shell.rest) before kept turns
  gathered before kept began round turns g =
      let all : List Turn = together.turns shell ran f before kept began round turns g in
      let a = law shell.program (kept ++ before) began round (λ n. began) all (together.gather shell ran f before kept began round turns g nodes h) in
      let counted : turns_together ran ≡ turns_in (entries_in all ++ kept) = turns_from ran 0 (entries_in all ++ kept) (λ n l. absurd (omega (arith, l)))
      (λ n. (let e : 0 + n ≡ n = omega arith in ap (λ m. own_entries m (entries_in all ++ kept)) e ∙ together.entries_are shell ran f before kept began round turns g n)) in
      let few : made ≡ turns_in (entries_in all ++ kept) =
      omega (arith, cap, counted, few_turns (entries_in all ++ kept), together.few_entries shell ran f before kept began round turns g, shell.program.setup.geometry.few_nodes) in
      record {
        merge = entries_in all;
        parts = λ n. own_in n all ∙ ap entries_in (together.own_is shell ran f before kept began round turns g n);
        stands = together.stands shell ran f before kept began round turns g nodes h whole a made few;
      }

-- ## In the words of the code: p and rest are the parts of the shell and vs the nodes; us, rs, ws and items are the same on the way

module _ (p : Program) (rest : List (Ends Packet)) (now : ShellView) (is : record { program = p; rest = rest } ≡ now) (whole : IsShell (record { program = p; rest = rest }))
    (vs : List NodeView) (fits : Fits now vs) where
  fit : Fits (record { program = p; rest = rest }) vs
  fit = subst (λ o. Fits o vs) (sym is) fits

  pub asks_numbered : (us : List NodeView) → us ≡ vs → AreNumbered us
  asks_numbered us e = subst (λ zs. AreNumbered zs) (sym e) fit.numbered

  pub asks_wired : (us : List NodeView) (rs : List (Ends Packet)) → us ≡ vs → rs ≡ rest → AreWired (wires_in us rs)
  asks_wired us rs e k = subst (λ zs. AreWired (wires_in zs rs)) (sym e) (subst (λ es. AreWired (wires_in vs es)) (sym k) fit.wired)

  module _ (us ws items : List NodeView) (rs : List (Ends Packet)) (same : us ≡ vs) (left : rs ≡ rest) (h : SettlesAll rs us ws) (written : items ≡ ws) where
    settles : SettlesAll rest vs items
    settles = subst (λ zs. SettlesAll rest vs zs) (sym written) (subst (λ es. SettlesAll es vs ws) left (subst (λ zs. SettlesAll rs zs ws) same h))

    pub put_all : AllOf p items
    put_all = all_still p vs items fit.programs settles.nodes

    pub put_same : (p ≡ now.program) × (rest ≡ now.rest) × KeepNodes vs items
    put_same = (ap (λ (o : ShellView). o.program) is, ap (λ (o : ShellView). o.rest) is, settles.nodes)

    pub put_stands : Law → (made : ℕ) (ys : List NodeView) → ys ≡ vs → IsCapped made (turns_together ys) → (before kept : List Entry) (began round : ℕ) (turns : ℕ → List Turn)
        → HaveGoneOn now vs before kept began round turns → StandsForMerge (view_of p made items rest) before kept turns
    put_stands law made ys e cap before kept began round turns g =
        gathered (record { program = p; rest = rest }) whole vs fit items settles law made (subst (λ zs. IsCapped made (turns_together zs)) e cap) before kept began round turns
        (subst (λ o. HaveGoneOn o vs before kept began round turns) (sym is) g)
