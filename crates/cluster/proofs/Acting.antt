-- A turn of one of the nodes, in the list of all.
use Rattle.std.proofs.Common.{◌≡◌, ℕ, zero, suc, ◌<◌, List, [], ◌∷◌, ◌++◌, length, map, set, get_or, Some, Ok, Err, true, refl, sym, ap, ◌∙◌, subst, arith}
use Rattle.std.specs.Prelude.{slice_get, Result, OnErr, OnOk}
use Rattle.std.proofs.lemmas.Option.{slice_get_within, same_Some}
use Rattle.run_trace.specs.declared.entry.Act.{Act}
use Rattle.run_trace.specs.declared.entry.Act.TheVariants.{Boot, Run, Take, Move}
use Rattle.run_trace.specs.declared.packet.Packet.{Packet}
use Rattle.run_trace.specs.Program.{Program}
use Rattle.wires.specs.declared.ends.Ends.{Ends}
use Rattle.wires.specs.Wires.{AreWired}
use Rattle.basics.proofs.Lemmas.{by_eq, some_at, get_set_same, get_set_other}
use Rattle.node_loop.specs.View.{NodeView, raised}
use Rattle.node_loop.specs.Turns.{IsInRange, IsLost, Turns, entry_limit}
use Rattle.node_loop.specs.declared.node.Turned.{Turned}
use Rattle.node_loop.specs.declared.node.Turned.TheVariants.{Did, Idle}
use Rattle.cluster.specs.Apart.{StaysInPlace}
use Rattle.cluster.specs.Between.{AllOf, AreNumbered, IsReady, KeepNodes, raised_but, wires_in}
use Rattle.cluster.specs.View.{ends_of}
use Rattle.cluster.proofs.Lists.{wires-get, wires-set}

pub raised_ends : (clock : ℕ) (vs : List NodeView) → map ends_of (map (raised clock) vs) ≡ map ends_of vs
raised_ends clock [] = refl
raised_ends clock (v ∷ vs) = ap (λ es. v.ends ∷ es) (raised_ends clock vs)

pub raised_length : (clock : ℕ) (vs : List NodeView) → length (map (raised clock) vs) ≡ length vs
raised_length clock [] = refl
raised_length clock (v ∷ vs) = ap suc (raised_length clock vs)

pub get_raised : (clock : ℕ) (vs : List NodeView) (m : ℕ) (v : NodeView) → slice_get vs m ≡ Some v → slice_get (map (raised clock) vs) m ≡ Some (raised clock v)
get_raised clock [] m v e = absurd (cc e)
get_raised clock (u ∷ us) zero v e = let same : u ≡ v = cc e in ap (λ z. Some (raised clock z)) same
get_raised clock (u ∷ us) (suc m) v e = get_raised clock us m v e

pub read_some : {A : Type 0} (xs : List A) (k : ℕ) (d x : A) → slice_get xs k ≡ Some x → get_or xs k d ≡ x
read_some [] k d x e = absurd (cc e)
read_some (y ∷ ys) zero d x e = cc e
read_some (y ∷ ys) (suc k) d x e = read_some ys k d x e

pub raised_at : (clock : ℕ) (vs now : List NodeView) (at : ℕ) (d v : NodeView) → now ≡ map (raised clock) vs → slice_get vs at ≡ Some v → get_or now at d ≡ raised clock v
raised_at clock vs now at d v e h = ap (λ us. get_or us at d) e ∙ read_some (map (raised clock) vs) at d (raised clock v) (get_raised clock vs at v h)

-- every turn keeps these
pub turn_keeps : (old new : NodeView) (act : Act) (t : Turned) → Turns old act new t → StaysInPlace old new
turn_keeps old new act Did h = record { program = ap (λ (z : NodeView). z.program) h.after; me = ap (λ (z : NodeView). z.me) h.after; wired = h.links.wired }
turn_keeps old new act Idle h = record { program = ap (λ (z : NodeView). z.program) h.same; me = ap (λ (z : NodeView). z.me) h.same; wired = h.links.wired }

pub lost_keeps : (old new : NodeView) → IsLost old new → StaysInPlace old new
lost_keeps old new h = record { program = h.program; me = h.me; wired = h.wired }

module _ (clock at : ℕ) (vs : List NodeView) (v new : NodeView) (here : slice_get vs at ≡ Some v) (keeps : StaysInPlace (raised clock v) new) where
  within : at < length (map (raised clock) vs)
  within = omega (arith, raised_length clock vs, slice_get_within vs at v here)

  pub mid_wires : (rest : List (Ends Packet)) → wires_in (raised_but clock at new vs) rest ≡ set (wires_in vs rest) at new.ends
  mid_wires rest = wires-set (map (raised clock) vs) rest at new within ∙ ap (λ fs. set (fs ++ rest) at new.ends) (raised_ends clock vs)

  pub mid_wired : (rest : List (Ends Packet)) → AreWired (wires_in vs rest) → AreWired (wires_in (raised_but clock at new vs) rest)
  mid_wired rest w = subst (λ es. AreWired es) (sym (mid_wires rest)) (keeps.wired.among (wires_in vs rest) at w (wires-get vs rest at v here))

  -- each stands where it stood
  abbrev AtPlace : ℕ → NodeView → Type 0
  AtPlace n u = (o : NodeView) × (slice_get vs n ≡ Some o) × (u.me ≡ o.me) × (u.program ≡ o.program)

  pub at_place : (n : ℕ) (u : NodeView) → slice_get (raised_but clock at new vs) n ≡ Some u → AtPlace n u
  at_place n u g = by_eq n at
      (λ e.
      let ue : new ≡ u = same_Some new u (sym (get_set_same (map (raised clock) vs) at new within) ∙ subst (λ k. slice_get (raised_but clock at new vs) k ≡ Some u) e g) in
      (v, ap (slice_get vs) e ∙ here, ap (λ (z : NodeView). z.me) (sym ue) ∙ keeps.me, ap (λ (z : NodeView). z.program) (sym ue) ∙ keeps.program))
      (λ ne.
      let gn : slice_get (map (raised clock) vs) n ≡ Some u = sym (get_set_other (map (raised clock) vs) n at new ne) ∙ g in
      let o = some_at vs n (omega (arith, raised_length clock vs, slice_get_within (map (raised clock) vs) n u gn)) in
      let ue : raised clock o.0 ≡ u = same_Some (raised clock o.0) u (sym (get_raised clock vs n o.0 o.1) ∙ gn) in
      (o.0, o.1, ap (λ (z : NodeView). z.me) (sym ue), ap (λ (z : NodeView). z.program) (sym ue)))

  pub mid_numbered : AreNumbered vs → AreNumbered (raised_but clock at new vs)
  mid_numbered h n u g = let o = at_place n u g in o.2 ∙ h n o.0 o.1

  pub mid_all : (p : Program) → AllOf p vs → AllOf p (raised_but clock at new vs)
  mid_all p h n u g = let o = at_place n u g in o.3 ∙ h n o.0 o.1

-- the programs stay where nothing but ends changes
pub all_still : (p : Program) (old now : List NodeView) → AllOf p old → KeepNodes old now → AllOf p now
all_still p old now a k n w g =
    let v = some_at old n (omega (arith, k.count, slice_get_within now n w g)) in
    ap (λ (z : NodeView). z.program) (k.each n v.0 w v.1 g) ∙ a n v.0 v.1

in_range_raised : (clock : ℕ) (v : NodeView) (act : Act) → IsInRange v act → IsInRange (raised clock v) act
in_range_raised clock v Boot r = r
in_range_raised clock v (Run vp quantum) r = r
in_range_raised clock v (Take from) r = r
in_range_raised clock v (Move t to) r = r

-- what the turn asks of the node, as it stands in the list
pub asks_range : (clock : ℕ) (v w : NodeView) (act : Act) → w ≡ raised clock v → IsReady v act → IsInRange w act
asks_range clock v w act e h = subst (λ z. IsInRange z act) (sym e) (in_range_raised clock v act h.range)

pub asks_booted : (clock : ℕ) (v w : NodeView) (act : Act) → w ≡ raised clock v → IsReady v act → w.state.booted ≡ true
asks_booted clock v w act e h = ap (λ (z : NodeView). z.state.booted) e ∙ h.booted

pub asks_entries : (clock : ℕ) (v w : NodeView) (act : Act) → w ≡ raised clock v → IsReady v act → length w.entries < entry_limit
asks_entries clock v w act e h = subst (λ (z : NodeView). length z.entries < entry_limit) (sym e) h.entries

-- whatever has come of a call, this holds where it has failed
pub if_err : {T E P : Type 0} (r : Result T E) → P → OnErr r P
if_err (Ok x) p = tt
if_err (Err e) p = p

pub if_ok : {T E P : Type 0} (r : Result T E) → P → OnOk r P
if_ok (Ok x) p = p
if_ok (Err e) p = tt
