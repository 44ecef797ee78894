use Rattle.trace_laws.proofs.Lives.SameLives.{same_guest, same_lines, same_end}
use Rattle.trace_laws.proofs.laws.same_wherever.Goals as goal

pub returns : goal.returns
returns c = record {
  guest = λ p q xs ys l m image t u h a b g k x y. same_guest p q xs ys l m image t u h a b g k x y;
  trace = λ p q xs ys l m image t u h. same_lines p q xs ys l m image t u h;
  ends = λ p q xs ys l m image t u h e f x y. same_end p q xs ys l m image t u h e f x y;
}
