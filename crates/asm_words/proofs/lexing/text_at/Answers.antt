use Rattle.std.proofs.Common.{◌∙◌, [], arith, refl}
use Rattle.std.proofs.lemmas.List.{append-nil}
use Rattle.asm_words.proofs.Onto.{onto_all_push, onto_all_text, onto_all_stray}
use Rattle.asm_words.proofs.lexing.text_at.Goals as goal

pub returns-in-End : goal.returns-in-End
returns-in-End c = record {
  tokens = c.pieces.invariant.0 ∙ rw c.in-End.ensures.0 (rw (onto_all_text c.pieces.text.items []) (rw append-nil refl));
  shorter = omega (arith, c.in-End.ensures.1, c.pieces.invariant.1);
}

pub pieces-preserved : goal.pieces-preserved
pieces-preserved c = (
  c.pieces.invariant.0 ∙ rw c.in-Byte.ensures.0 (rw c.in_ok-push-in-Byte.ensures.items (rw onto_all_push refl)),
  omega (arith, c.in-Byte.ensures.1, c.pieces.invariant.1),
)

pub returns-in-Bad : goal.returns-in-Bad
returns-in-Bad c = record {
  tokens = c.pieces.invariant.0 ∙ rw c.in-Bad.ensures (onto_all_stray c.pieces.text.items);
  shorter = omega arith;
}
