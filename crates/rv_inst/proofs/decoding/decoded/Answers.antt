use Rattle.std.proofs.Common.{◌≡◌, ℕ, ◌%◌, ◌^◌, bit_and, sym, ◌∙◌}
use Rattle.std.proofs.lemmas.Nat.{and_mask}
use Rattle.rv_inst.proofs.decoding.decoded.Goals as goal

-- the opcode, as a mask takes it
low : (word opcode : ℕ) → bit_and word 0x7f ≡ opcode → word % 2 ^ 7 ≡ opcode
low word opcode e = sym (and_mask word 7) ∙ e

pub returns-in-103-clause-found : goal.returns-in-103-clause-found
returns-in-103-clause-found c = c.jump_by.ensures.found

pub returns-in-103-clause-exact : goal.returns-in-103-clause-exact
returns-in-103-clause-exact c = c.jump_by.ensures.exact

pub returns-in-99-clause-found : goal.returns-in-99-clause-found
returns-in-99-clause-found c = c.branch-word.ensures.found

pub returns-in-99-clause-exact : goal.returns-in-99-clause-exact
returns-in-99-clause-exact c = c.branch-word.ensures.exact

pub returns-in-3-clause-found : goal.returns-in-3-clause-found
returns-in-3-clause-found c = c.load.ensures.found

pub returns-in-3-clause-exact : goal.returns-in-3-clause-exact
returns-in-3-clause-exact c = c.load.ensures.exact

pub returns-in-35-clause-found : goal.returns-in-35-clause-found
returns-in-35-clause-found c = c.store.ensures.found

pub returns-in-35-clause-exact : goal.returns-in-35-clause-exact
returns-in-35-clause-exact c = c.store.ensures.exact

pub returns-in-19-clause-found : goal.returns-in-19-clause-found
returns-in-19-clause-found c = c.immediate.ensures.found

pub returns-in-19-clause-exact : goal.returns-in-19-clause-exact
returns-in-19-clause-exact c = c.immediate.ensures.exact

pub returns-in-27-clause-found : goal.returns-in-27-clause-found
returns-in-27-clause-found c = c.immediate_w.ensures.found

pub returns-in-27-clause-exact : goal.returns-in-27-clause-exact
returns-in-27-clause-exact c = c.immediate_w.ensures.exact

pub returns-in-51-clause-found : goal.returns-in-51-clause-found
returns-in-51-clause-found c = c.registers.ensures.found

pub returns-in-51-clause-exact : goal.returns-in-51-clause-exact
returns-in-51-clause-exact c = c.registers.ensures.exact

pub returns-in-59-clause-found : goal.returns-in-59-clause-found
returns-in-59-clause-found c = c.registers-in-59.ensures.found

pub returns-in-59-clause-exact : goal.returns-in-59-clause-exact
returns-in-59-clause-exact c = c.registers-in-59.ensures.exact

pub returns-in-15-clause-found : goal.returns-in-15-clause-found
returns-in-15-clause-found c = c.fence.ensures.found

pub returns-in-15-clause-exact : goal.returns-in-15-clause-exact
returns-in-15-clause-exact c = c.fence.ensures.exact

pub returns-in-115-clause-found : goal.returns-in-115-clause-found
returns-in-115-clause-found c = c.system.ensures.found

pub returns-in-115-clause-exact : goal.returns-in-115-clause-exact
returns-in-115-clause-exact c = c.system.ensures.exact

pub jump_by-requires : goal.jump_by-requires
jump_by-requires c = low c.args.word 103 c.in-103.is

pub branch-word-requires : goal.branch-word-requires
branch-word-requires c = low c.args.word 99 c.in-99.is

pub load-requires : goal.load-requires
load-requires c = low c.args.word 3 c.in-3.is

pub store-requires : goal.store-requires
store-requires c = low c.args.word 35 c.in-35.is

pub immediate-requires : goal.immediate-requires
immediate-requires c = low c.args.word 19 c.in-19.is

pub immediate_w-requires : goal.immediate_w-requires
immediate_w-requires c = low c.args.word 27 c.in-27.is

pub registers-requires-clause-word : goal.registers-requires-clause-word
registers-requires-clause-word c = low c.args.word 51 c.in-51.is

pub registers-requires-in-59-clause-word : goal.registers-requires-in-59-clause-word
registers-requires-in-59-clause-word c = low c.args.word 59 c.in-59.is

pub fence-requires : goal.fence-requires
fence-requires c = low c.args.word 15 c.in-15.is

pub system-requires : goal.system-requires
system-requires c = low c.args.word 115 c.in-115.is
