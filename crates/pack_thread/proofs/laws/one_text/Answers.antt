use Rattle.std.proofs.Common.{refl}
use Rattle.pack_thread.proofs.Texts.{text_read, one_thread}
use Rattle.pack_thread.proofs.TextThreads.{thread_again}
use Rattle.pack_thread.proofs.laws.one_text.Goals as goal

pub returns-clause-read : goal.returns-clause-read
returns-clause-read c = λ t rules typed. rw (text_read t rules typed) refl

pub returns-clause-one : goal.returns-clause-one
returns-clause-one c = one_thread

pub returns-clause-thread : goal.returns-clause-thread
returns-clause-thread c = thread_again
