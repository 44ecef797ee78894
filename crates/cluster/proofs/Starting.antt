-- Nodes begin one after another.
use Rattle.std.proofs.Common.{◌≡◌, ℕ, zero, suc, ◌<◌, ◌≤◌, List, [], ◌∷◌, ◌++◌, length, drop, Some, refl, sym, ap, ◌∙◌, subst, arith, length-append}
use Rattle.std.specs.Prelude.{slice_get}
use Rattle.std.proofs.lemmas.Option.{slice_get_within, same_Some}
use Rattle.rv_inst.specs.declared.image.Image.{Image}
use Rattle.run_trace.specs.declared.entry.Setup.{Setup}
use Rattle.run_trace.specs.Program.{Program}
use Rattle.run_trace.specs.declared.packet.Packet.{Packet}
use Rattle.wires.specs.declared.ends.Ends.{Ends}
use Rattle.basics.proofs.Lemmas.{by_eq, get_last, get_before}
use Rattle.node_state.specs.Events.{program}
use Rattle.node_loop.specs.View.{NodeView}
use Rattle.cluster.specs.Between.{HasBegun, HaveBegun}

drop_short : {A : Type 0} (xs : List A) (k : ℕ) → length xs ≤ k → drop k xs ≡ []
drop_short [] zero l = refl
drop_short [] (suc k) l = refl
drop_short (x ∷ xs) zero l = absurd (omega arith)
drop_short (x ∷ xs) (suc k) l = drop_short xs k (omega arith)

drop_more : {A : Type 0} (xs : List A) (e : A) (k : ℕ) → k ≤ length xs → drop k (xs ++ e ∷ []) ≡ drop k xs ++ e ∷ []
drop_more [] e zero l = refl
drop_more [] e (suc k) l = absurd (omega arith)
drop_more (x ∷ xs) e zero l = refl
drop_more (x ∷ xs) e (suc k) l = drop_more xs e k (omega arith)

-- a program is its setup and its image
pub of_parts : (p : Program) (setup : Setup) (image : Image) → setup ≡ p.setup → image ≡ p.image → program setup image ≡ p
of_parts p setup image e f = ap (λ s. program s image) e ∙ ap (program p.setup) f

pub one_begins : (p : Program) (count : ℕ) (es : List (Ends Packet)) (vs : List NodeView) (rest : List (Ends Packet)) (e : Ends Packet) (v : NodeView) (vs' : List NodeView) (n : ℕ)
    → length vs < count → vs' ≡ vs ++ v ∷ [] → n ≡ length vs → HasBegun p n e v → HaveBegun p count es vs rest → HaveBegun p count (es ++ e ∷ []) vs' rest
one_begins p count es vs rest e v vs' n l more at b h =
    let same : length vs ≡ length es = omega (arith, h.many, l) in
    let longer : length (es ++ e ∷ []) ≡ suc (length es) = length-append es (e ∷ []) ∙ omega arith in
    let grown : length (vs ++ v ∷ []) ≡ suc (length vs) = length-append vs (v ∷ []) ∙ omega arith in
    subst (λ us. HaveBegun p count (es ++ e ∷ []) us rest) (sym more) (record {
      begun = λ m f u g k. by_eq m (length vs)
          (λ s.
          let fe : e ≡ f = same_Some e f (sym (get_last es e) ∙ subst (λ i. slice_get (es ++ e ∷ []) i ≡ Some f) (s ∙ same) g) in
          let ue : v ≡ u = same_Some v u (sym (get_last vs v) ∙ subst (λ i. slice_get (vs ++ v ∷ []) i ≡ Some u) s k) in
          subst (λ i. HasBegun p i f u) (at ∙ sym s) (subst (λ z. HasBegun p n z u) fe (subst (λ z. HasBegun p n e z) ue b)))
          (λ ne. h.begun m f u (sym (get_before es m e (λ s. ne (s ∙ sym same))) ∙ g) (sym (get_before vs m v ne) ∙ k));
      many = omega (arith, same, longer, grown, l);
      left = h.left ∙ drop_short es count (omega (arith, same, l)) ∙ sym (drop_short (es ++ e ∷ []) count (omega (arith, same, l, longer)));
    })

pub one_left : (p : Program) (count : ℕ) (es : List (Ends Packet)) (vs : List NodeView) (rest : List (Ends Packet)) (e : Ends Packet) (rest' : List (Ends Packet))
    → count ≤ length vs → rest' ≡ rest ++ e ∷ [] → HaveBegun p count es vs rest → HaveBegun p count (es ++ e ∷ []) vs rest'
one_left p count es vs rest e rest' l more h =
    let enough : count ≤ length es = omega (arith, h.many, l) in
    let longer : length (es ++ e ∷ []) ≡ suc (length es) = length-append es (e ∷ []) ∙ omega arith in
    subst (λ us. HaveBegun p count (es ++ e ∷ []) vs us) (sym more) (record {
      begun = λ m f u g k. h.begun m f u (sym (get_before es m e (λ s. absurd (omega (arith, s, slice_get_within vs m u k, h.many)))) ∙ g) k;
      many = omega (arith, h.many, longer, enough);
      left = ap (λ xs. xs ++ e ∷ []) h.left ∙ sym (drop_more es e count enough);
    })
