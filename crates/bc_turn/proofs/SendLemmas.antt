-- Pagers may go to another thread.
use denote.Param.Send.{IsSend, sendable}
use denote.Param.SendFields.{declared_send}
use Rattle.std.proofs.Crossing.{crosses}
use Rattle.std.specs.contracts.alloc.Global as global
use Rattle.std.specs.contracts.impls.GlobalAllocator as allocator
use Rattle.std.specs.contracts.vec.Vec as vec
use Rattle.bc_pager.specs.contracts.answers.Answer as answer
use Rattle.bc_pager.specs.contracts.answers.Answers as answers
use Rattle.bc_pager.specs.contracts.paging.Paging as paging
use Rattle.bc_pins.proofs.pins.Seat.TheSendSync as seat

answer_send : IsSend answer.the_row
answer_send = search (sendable, crosses) depth 20

answers_send : IsSend answers.the_row
answers_send = search (sendable, crosses, answer_send) depth 20

-- one of them
pub paging_send : IsSend paging.the_row
paging_send = declared_send paging.the_type (search (sendable, seat.the_send) depth 8, (search (sendable, answers_send) depth 8, tt))

-- and a list of them
pub pagers_send : IsSend (vec.the_row paging.the_row global.the_row allocator.TheImpl.ghosts)
pagers_send = search (sendable, crosses, paging_send) depth 20
