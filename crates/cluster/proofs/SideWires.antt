-- The nodes' ends stay wired whatever each node did.
use Rattle.std.proofs.Common.{◌≡◌, ℕ, suc, List, [], ◌∷◌, ◌++◌, length, map, set, Some, refl, sym, ap, ◌∙◌, subst, arith, append_assoc}
use Rattle.std.specs.Prelude.{slice_get}
use Rattle.run_trace.specs.declared.packet.Packet.{Packet}
use Rattle.wires.specs.declared.ends.Ends.{Ends}
use Rattle.wires.specs.Wires.{AreWired, StaysWired}
use Rattle.node_loop.specs.View.{NodeView}
use Rattle.cluster.specs.Between.{wires_in}
use Rattle.cluster.specs.View.{ends_of}

get_behind : {A : Type 0} (done xs : List A) (x : A) → slice_get (done ++ x ∷ xs) (length done) ≡ Some x
get_behind [] xs x = refl
get_behind (d ∷ done) xs x = get_behind done xs x

set_behind : {A : Type 0} (done xs : List A) (x y : A) → set (done ++ x ∷ xs) (length done) y ≡ done ++ y ∷ xs
set_behind [] xs x y = refl
set_behind (d ∷ done) xs x y = ap (λ zs. d ∷ zs) (set_behind done xs x y)

-- one node's ends after another
wired_each : (done rest : List (Ends Packet)) (vs ws : List NodeView) → length ws ≡ length vs → ((n : ℕ) (v w : NodeView) → slice_get vs n ≡ Some v → slice_get ws n ≡ Some w → StaysWired v.ends w.ends)
    → AreWired (done ++ (map ends_of vs ++ rest)) → AreWired (done ++ (map ends_of ws ++ rest))
wired_each done rest [] [] e k h = h
wired_each done rest [] (w ∷ ws) e k h = absurd (omega (arith, e))
wired_each done rest (v ∷ vs) [] e k h = absurd (omega (arith, e))
wired_each done rest (v ∷ vs) (w ∷ ws) e k h =
    let left : List (Ends Packet) = map ends_of vs ++ rest in
    let one : AreWired (set (done ++ v.ends ∷ left) (length done) w.ends) = (k 0 v w refl refl).among (done ++ v.ends ∷ left) (length done) h (get_behind done left v.ends) in
    let moved : AreWired ((done ++ w.ends ∷ []) ++ left) = subst (λ es. AreWired es) (set_behind done left v.ends w.ends ∙ sym (append_assoc done (w.ends ∷ []) left)) one in
    subst (λ es. AreWired es) (append_assoc done (w.ends ∷ []) (map ends_of ws ++ rest))
    (wired_each (done ++ w.ends ∷ []) rest vs ws (omega (arith, e)) (λ n x y f g. k (suc n) x y f g) moved)

pub wired_all : (rest : List (Ends Packet)) (vs ws : List NodeView) → length ws ≡ length vs → ((n : ℕ) (v w : NodeView) → slice_get vs n ≡ Some v → slice_get ws n ≡ Some w → StaysWired v.ends w.ends)
    → AreWired (wires_in vs rest) → AreWired (wires_in ws rest)
wired_all rest vs ws e k h = wired_each [] rest vs ws e k h
