-- The test of two labels tells whether they are the same.
use Rattle.std.proofs.Common.{rules, ◌≡◌, ℕ, eqb, Bool, true, false, Option, Some, None, refl, Decides}
use Rattle.std.specs.Cmp.Lexicographic.{bytes_decides}
use Rattle.std.specs.Option.{option_eq}
use Rattle.std.proofs.lemmas.Bool.Decides.{Decides-eqb, Decides-and, Decides-like}
use Rattle.slot_space.specs.declared.names.Tid.{Tid}
use Rattle.slot_space.specs.contracts.names.TidPartialEq.TheImpl as tid
use Rattle.rv_step.specs.declared.hart.Stop.{Stop}
use Rattle.rv_step.specs.contracts.hart.StopPartialEq.TheImpl as stop
use Rattle.marcel_core.specs.declared.end.End.{End}
use Rattle.marcel_core.specs.contracts.end.EndPartialEq.TheImpl as end
use Rattle.run_trace.specs.declared.label.Why.{Why}
use Rattle.run_trace.specs.contracts.label.WhyPartialEq.TheImpl as why
use Rattle.run_trace.specs.declared.label.Extra.{Extra}
use Rattle.run_trace.specs.contracts.label.ExtraPartialEq.TheImpl as extra
use Rattle.run_trace.specs.declared.label.Label.{Label}
use Rattle.run_trace.specs.declared.label.Label.TheVariants.{Born, Ran, Asked, Heard, Judged, Told, Took, Gave, Ended, Known, Left, Came, Lent, InHand, Decided, Returned, Home, Down, Burst, Gathered, Shown, Halted, Dropped}
use Rattle.run_trace.specs.contracts.label.LabelPartialEq.TheImpl.{ghosts}

abbrev pub label_eq : Label → Label → Bool
label_eq a b = ghosts.eq a b

tid_tells : (a b : Tid) → Decides (tid.ghosts.eq a b) (a ≡ b)
tid_tells a b = search rules

why_tells : (a b : Why) → Decides (why.ghosts.eq a b) (a ≡ b)
why_tells a b = search rules

stop_tells : (a b : Stop) → Decides (stop.ghosts.eq a b) (a ≡ b)
stop_tells a b = search rules

extra_tells : (a b : Extra) → Decides (extra.ghosts.eq a b) (a ≡ b)
extra_tells a b = search rules

end_tells : (a b : End) → Decides (end.ghosts.eq a b) (a ≡ b)
end_tells a b = search rules

unlike : {P : Type 0} → (P → false ≡ true) → Decides false P
unlike f = (λ h. absurd (cc h), f)

slot_tells : (a b : Option ℕ) → Decides (option_eq eqb a b) (a ≡ b)
slot_tells None None = (λ h. refl, λ e. refl)
slot_tells None (Some b) = unlike (λ e. absurd (cc e))
slot_tells (Some a) None = unlike (λ e. absurd (cc e))
slot_tells (Some a) (Some b) = Decides-like (eqb a b) (λ h. cc) (λ e. cc e) (Decides-eqb a b)

pub tells : (a b : Label) → Decides (label_eq a b) (a ≡ b)
tells (Born x0 x1 x2 x3 x4 x5 x6) (Born y0 y1 y2 y3 y4 y5 y6) = Decides-like (label_eq (Born x0 x1 x2 x3 x4 x5 x6) (Born y0 y1 y2 y3 y4 y5 y6)) (λ h. cc) (λ e. (cc e, (cc e, (cc e, (cc e, (cc e, (cc e, (cc e)))))))) (Decides-and _ _ (tid_tells x0 y0) (Decides-and _ _ (why_tells x1 y1) (Decides-and _ _ (Decides-eqb x2 y2) (Decides-and _ _ (Decides-eqb x3 y3) (Decides-and _ _ (Decides-eqb x4 y4) (Decides-and _ _ (Decides-eqb x5 y5) (Decides-eqb x6 y6)))))))
tells (Born x0 x1 x2 x3 x4 x5 x6) b = unlike (λ e. absurd (cc e))
tells (Ran x0 x1 x2 x3) (Ran y0 y1 y2 y3) = Decides-like (label_eq (Ran x0 x1 x2 x3) (Ran y0 y1 y2 y3)) (λ h. cc) (λ e. (cc e, (cc e, (cc e, (cc e))))) (Decides-and _ _ (tid_tells x0 y0) (Decides-and _ _ (Decides-eqb x1 y1) (Decides-and _ _ (Decides-eqb x2 y2) (stop_tells x3 y3))))
tells (Ran x0 x1 x2 x3) b = unlike (λ e. absurd (cc e))
tells (Asked x0 x1 x2 x3) (Asked y0 y1 y2 y3) = Decides-like (label_eq (Asked x0 x1 x2 x3) (Asked y0 y1 y2 y3)) (λ h. cc) (λ e. (cc e, (cc e, (cc e, (cc e))))) (Decides-and _ _ (tid_tells x0 y0) (Decides-and _ _ (Decides-eqb x1 y1) (Decides-and _ _ (bytes_decides x2 y2) (bytes_decides x3 y3))))
tells (Asked x0 x1 x2 x3) b = unlike (λ e. absurd (cc e))
tells (Heard x0) (Heard y0) = Decides-like (label_eq (Heard x0) (Heard y0)) (λ h. cc) (λ e. (cc e)) (tid_tells x0 y0)
tells (Heard x0) b = unlike (λ e. absurd (cc e))
tells (Judged x0 x1 x2) (Judged y0 y1 y2) = Decides-like (label_eq (Judged x0 x1 x2) (Judged y0 y1 y2)) (λ h. cc) (λ e. (cc e, (cc e, (cc e)))) (Decides-and _ _ (tid_tells x0 y0) (Decides-and _ _ (Decides-eqb x1 y1) (extra_tells x2 y2)))
tells (Judged x0 x1 x2) b = unlike (λ e. absurd (cc e))
tells (Told x0) (Told y0) = Decides-like (label_eq (Told x0) (Told y0)) (λ h. cc) (λ e. (cc e)) (tid_tells x0 y0)
tells (Told x0) b = unlike (λ e. absurd (cc e))
tells (Took x0 x1 x2) (Took y0 y1 y2) = Decides-like (label_eq (Took x0 x1 x2) (Took y0 y1 y2)) (λ h. cc) (λ e. (cc e, (cc e, (cc e)))) (Decides-and _ _ (tid_tells x0 y0) (Decides-and _ _ (Decides-eqb x1 y1) (Decides-eqb x2 y2)))
tells (Took x0 x1 x2) b = unlike (λ e. absurd (cc e))
tells (Gave x0 x1) (Gave y0 y1) = Decides-like (label_eq (Gave x0 x1) (Gave y0 y1)) (λ h. cc) (λ e. (cc e, (cc e))) (Decides-and _ _ (tid_tells x0 y0) (bytes_decides x1 y1))
tells (Gave x0 x1) b = unlike (λ e. absurd (cc e))
tells (Ended x0 x1) (Ended y0 y1) = Decides-like (label_eq (Ended x0 x1) (Ended y0 y1)) (λ h. cc) (λ e. (cc e, (cc e))) (Decides-and _ _ (tid_tells x0 y0) (end_tells x1 y1))
tells (Ended x0 x1) b = unlike (λ e. absurd (cc e))
tells (Known x0) (Known y0) = Decides-like (label_eq (Known x0) (Known y0)) (λ h. cc) (λ e. (cc e)) (tid_tells x0 y0)
tells (Known x0) b = unlike (λ e. absurd (cc e))
tells (Left x0 x1) (Left y0 y1) = Decides-like (label_eq (Left x0 x1) (Left y0 y1)) (λ h. cc) (λ e. (cc e, (cc e))) (Decides-and _ _ (tid_tells x0 y0) (Decides-eqb x1 y1))
tells (Left x0 x1) b = unlike (λ e. absurd (cc e))
tells (Came x0) (Came y0) = Decides-like (label_eq (Came x0) (Came y0)) (λ h. cc) (λ e. (cc e)) (tid_tells x0 y0)
tells (Came x0) b = unlike (λ e. absurd (cc e))
tells (Lent x0 x1) (Lent y0 y1) = Decides-like (label_eq (Lent x0 x1) (Lent y0 y1)) (λ h. cc) (λ e. (cc e, (cc e))) (Decides-and _ _ (Decides-eqb x0 y0) (bytes_decides x1 y1))
tells (Lent x0 x1) b = unlike (λ e. absurd (cc e))
tells (InHand x0 x1) (InHand y0 y1) = Decides-like (label_eq (InHand x0 x1) (InHand y0 y1)) (λ h. cc) (λ e. (cc e, (cc e))) (Decides-and _ _ (Decides-eqb x0 y0) (bytes_decides x1 y1))
tells (InHand x0 x1) b = unlike (λ e. absurd (cc e))
tells (Decided x0 x1 x2) (Decided y0 y1 y2) = Decides-like (label_eq (Decided x0 x1 x2) (Decided y0 y1 y2)) (λ h. cc) (λ e. (cc e, (cc e, (cc e)))) (Decides-and _ _ (tid_tells x0 y0) (Decides-and _ _ (Decides-eqb x1 y1) (slot_tells x2 y2)))
tells (Decided x0 x1 x2) b = unlike (λ e. absurd (cc e))
tells (Returned x0 x1) (Returned y0 y1) = Decides-like (label_eq (Returned x0 x1) (Returned y0 y1)) (λ h. cc) (λ e. (cc e, (cc e))) (Decides-and _ _ (Decides-eqb x0 y0) (bytes_decides x1 y1))
tells (Returned x0 x1) b = unlike (λ e. absurd (cc e))
tells (Home x0) (Home y0) = Decides-like (label_eq (Home x0) (Home y0)) (λ h. cc) (λ e. (cc e)) (bytes_decides x0 y0)
tells (Home x0) b = unlike (λ e. absurd (cc e))
tells (Down x0 x1) (Down y0 y1) = Decides-like (label_eq (Down x0 x1) (Down y0 y1)) (λ h. cc) (λ e. (cc e, (cc e))) (Decides-and _ _ (Decides-eqb x0 y0) (Decides-eqb x1 y1))
tells (Down x0 x1) b = unlike (λ e. absurd (cc e))
tells (Burst x0 x1) (Burst y0 y1) = Decides-like (label_eq (Burst x0 x1) (Burst y0 y1)) (λ h. cc) (λ e. (cc e, (cc e))) (Decides-and _ _ (Decides-eqb x0 y0) (Decides-eqb x1 y1))
tells (Burst x0 x1) b = unlike (λ e. absurd (cc e))
tells (Gathered x0 x1) (Gathered y0 y1) = Decides-like (label_eq (Gathered x0 x1) (Gathered y0 y1)) (λ h. cc) (λ e. (cc e, (cc e))) (Decides-and _ _ (Decides-eqb x0 y0) (Decides-eqb x1 y1))
tells (Gathered x0 x1) b = unlike (λ e. absurd (cc e))
tells (Shown x0) (Shown y0) = Decides-like (label_eq (Shown x0) (Shown y0)) (λ h. cc) (λ e. (cc e)) (tid_tells x0 y0)
tells (Shown x0) b = unlike (λ e. absurd (cc e))
tells (Halted x0) (Halted y0) = Decides-like (label_eq (Halted x0) (Halted y0)) (λ h. cc) (λ e. (cc e)) (tid_tells x0 y0)
tells (Halted x0) b = unlike (λ e. absurd (cc e))
tells (Dropped x0 x1 x2) (Dropped y0 y1 y2) = Decides-like (label_eq (Dropped x0 x1 x2) (Dropped y0 y1 y2)) (λ h. cc) (λ e. (cc e, (cc e, (cc e)))) (Decides-and _ _ (tid_tells x0 y0) (Decides-and _ _ (Decides-eqb x1 y1) (Decides-eqb x2 y2)))
tells (Dropped x0 x1 x2) b = unlike (λ e. absurd (cc e))
