use Rattle.std.proofs.Common.{append_assoc}
use Rattle.std.proofs.lemmas.List.{append-nil}
use Rattle.bc_trace.proofs.writing.push_setup.Goals as goal

pub returns : goal.returns
returns c = rw (c.in_ok-push_setting-7.ensures, c.in_ok-push_setting-6.ensures, c.in_ok-push_setting-5.ensures, c.in_ok-push_setting-4.ensures, c.in_ok-push_setting-3.ensures, c.in_ok-push_setting-2.ensures, c.in_ok-push_setting.ensures) (simp (append_assoc, append-nil))
