-- The frame, where nothing refuses it.
use Rattle.frames.proofs.Writing.{frame_written}
use Rattle.frames.proofs.write_frame.Goals as goal

pub returns : goal.returns
returns c = search frame_written
