use Rattle.store_log.proofs.frame_file.FrameFile.append_frame.Given as goal

abbrev pub ghost-make_room : goal.ghost-make_room
ghost-make_room g a = g.more.0

abbrev pub ghost-append_once : goal.ghost-append_once
ghost-append_once g a = g.more

abbrev pub ghost-append_twice : goal.ghost-append_twice
ghost-append_twice g a = g.more
