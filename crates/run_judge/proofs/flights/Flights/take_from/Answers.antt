use Rattle.std.proofs.Common.{◌≡◌, ℕ, sym, ap, ◌∙◌, subst, [], List, Some, None, get_or}
use Rattle.std.specs.List.{position, remove}
use Rattle.std.proofs.lemmas.List.Quantifiers.{position-Some}
use Rattle.run_trace.specs.Links.{first_of}
use Rattle.run_judge.specs.declared.flights.Flight.{Flight}
use Rattle.run_judge.specs.Links.{is_on, link_of}
use Rattle.run_judge.proofs.LinkLemmas.{Takes, takes, none_on, left_taken, left_none}
use Rattle.run_judge.proofs.Positions.{position-None}
use Rattle.run_judge.proofs.flights.Flights.take_from.Goals as goal

taken : (c : goal.After-remove-packet) → Takes c.args.from c.args.to c.args.self.now.all.items c.remove-packet.new.self.items c.remove-packet.result.packet
taken c =
    let fs : List Flight = c.args.self.now.all.items in
    let k : ℕ = c.in-Some.place in
    let d : Flight = c.remove-packet.result in
    let found : position (is_on c.args.from c.args.to) fs ≡ Some k = ap (position (is_on c.args.from c.args.to)) (sym c.deref.ensures.value) ∙ sym c.in-Some.ensures in
    let at = position-Some (is_on c.args.from c.args.to) fs k d found in
    let all : Takes c.args.from c.args.to fs (remove fs k) (get_or fs k d).packet = takes c.args.from c.args.to fs k d at.0 at.1 at.2 in
    let same : get_or fs k d ≡ d = sym c.remove-packet.ensures.value in
    subst (λ (f : Flight). Takes c.args.from c.args.to fs c.remove-packet.new.self.items f.packet) same
    (subst (λ (gs : List Flight). Takes c.args.from c.args.to fs gs (get_or fs k d).packet) (sym c.remove-packet.ensures.items) all)

none : (fs gs : List Flight) (i j : ℕ) → gs ≡ fs → None ≡ position (is_on i j) gs → link_of fs i j ≡ []
none fs gs i j e h = none_on i j fs (position-None (is_on i j) fs (ap (position (is_on i j)) (sym e) ∙ sym h))

nothing : (c : goal.In_default) → link_of c.args.self.now.all.items c.args.from c.args.to ≡ []
nothing c = none c.args.self.now.all.items c.deref.result.now c.args.from c.args.to c.deref.ensures.value c.in_default.ensures

pub returns-clause-first : goal.returns-clause-first
returns-clause-first c = sym (taken c).first

pub returns-clause-rest : goal.returns-clause-rest
returns-clause-rest c = left_taken c.args.from c.args.to c.args.self.now.all.items c.remove-packet.new.self.items c.remove-packet.result.packet (taken c)

pub returns-in_default-clause-first : goal.returns-in_default-clause-first
returns-in_default-clause-first c = ap first_of (sym (nothing c))

pub returns-in_default-clause-rest : goal.returns-in_default-clause-rest
returns-in_default-clause-rest c = left_none c.args.from c.args.to c.args.self.now.all.items (nothing c)
