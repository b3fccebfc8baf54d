use Rattle.bc_replay.proofs.CutRoom.{cut_short, room_ample, room_enough}
use Rattle.bc_replay.proofs.Room.{output_short}
use Rattle.bc_cli.proofs.ChurnRoom.{summary-short}
use Rattle.bc_cli.proofs.ResumeRoom.{resume_ample, resume_enough}
use Rattle.bc_cli.proofs.SaveRoom.{save_ample}
use Rattle.bc_cli.proofs.laws.law_output.Goals as goal

pub returns : goal.returns
returns c = record {
  short = output_short;
  cut_short = cut_short;
  room = room_enough;
  ample = room_ample;
  churn = summary-short;
  save = save_ample;
  resume = resume_enough;
  resume_ample = resume_ample;
}
