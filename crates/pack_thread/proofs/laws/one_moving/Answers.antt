use Rattle.std.proofs.Common.{refl, sym, ◌∙◌}
use Rattle.pack_thread.proofs.Texts.{one_thread}
use Rattle.pack_thread.proofs.Movings.{moving_text, moving_read}
use Rattle.pack_thread.proofs.laws.one_moving.Goals as goal

pub returns-clause-read : goal.returns-clause-read
returns-clause-read c = λ m t is. rw (moving_read m t is) refl

pub returns-clause-text : goal.returns-clause-text
returns-clause-text c = moving_text

pub returns-clause-one : goal.returns-clause-one
returns-clause-one c = λ m t u of_t of_u. one_thread t u of_t.rules of_t.typed of_u.rules of_u.typed (sym (moving_text m t of_t) ∙ moving_text m u of_u)
