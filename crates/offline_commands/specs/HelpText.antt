-- What `--help` and `--version` print.
use Rattle.std.specs.Prelude.{ℕ, List, codes, ◌++◌}

unfoldable pub version_text : List ℕ
version_text = codes "vodserve 0.1.0\n"

unfoldable pub help_text : List ℕ
help_text =
    codes "vodserve - a video-on-demand server that sends each film by its smoothest plan\n" ++
    codes "\n" ++
    codes "usage: vodserve COMMAND KEY=VALUE ..\n" ++
    codes "\n" ++
    codes "  plan trace=NAME [buffer=BYTES] [startup=SLOTS]\n" ++
    codes "  plan film=NAME [buffer=BYTES] [startup=SLOTS] [slot=UNITS]\n" ++
    codes "      the plan that sends the pictures of a trace or film most evenly, as a\n" ++
    codes "      certificate\n" ++
    codes "  check trace=NAME cert=NAME [buffer=BYTES] [startup=SLOTS]\n" ++
    codes "  check film=NAME cert=NAME [buffer=BYTES] [startup=SLOTS] [slot=UNITS]\n" ++
    codes "      \"least\" where a certificate is that of this plan, else the first fault\n" ++
    codes "  scan film=NAME\n" ++
    codes "      the pictures of an MPEG-1 film\n" ++
    codes "  make kind=film|trace|system seed=NUMBER pictures=NUMBER\n" ++
    codes "      the film, trace or system stream generated from a number\n" ++
    codes "  day script=NAME [capacity=BYTES|SLOT:BYTES,..] [journal=NUMBER] [slot=UNITS]\n" ++
    codes "      a link's day by a script of plays, pauses, looks, offers and slots: its\n" ++
    codes "      journal, what was sent and what is booked\n" ++
    codes "  fair seed=NUMBER plays=NUMBER [capacity=BYTES|SLOT:BYTES,..]\n" ++
    codes "      a large day drawn from a number, in one line\n" ++
    codes "  serve film=NAME .. [capacity=BYTES|SLOT:BYTES,..] [port=NUMBER]\n" ++
    codes "        [bind=local|all] [buffer=BYTES] [startup=SLOTS] [slot=UNITS]\n" ++
    codes "        [journal=NUMBER] [workers=NUMBER] [connections=NUMBER]\n" ++
    codes "      serves films over RTSP; at its end its journal and what is still booked\n" ++
    codes "  watch film=NAME [port=NUMBER] [buffer=BYTES] [startup=SLOTS] [slot=UNITS]\n" ++
    codes "      plays a film of a server on this machine: its bytes go to the output, and\n" ++
    codes "      at the end one line on standard error says what its buffer held\n" ++
    codes "  --help\n" ++
    codes "      this text\n" ++
    codes "  --version\n" ++
    codes "      the name and the version\n" ++
    codes "\n" ++
    codes "Each key comes at most once, except film in serve; order is free. A NAME is\n" ++
    codes "a file of this folder, of 1 to 64 letters, digits, '.', '_', '-', not first a\n" ++
    codes "'.'. A film is an MPEG-1 video stream, or a system stream with one. In serve,\n" ++
    codes "buffer and startup are for clients that name none.\n" ++
    codes "\n" ++
    codes "  key          values                                          default\n" ++
    codes "  buffer       a client's bytes, 1 to 4398046511104            1048576\n" ++
    codes "  startup      slots before the first picture, 0 to 10000      25\n" ++
    codes "  seed         0 to 18446744073709551615                       -\n" ++
    codes "  pictures     1 to 100000                                     -\n" ++
    codes "  plays        1 to 100000                                     -\n" ++
    codes "  film         in serve 1 to 64 of at most 1073741824 bytes    -\n" ++
    codes "  capacity     bytes a slot, 1 to 4398046511104; or up to 64   50000\n" ++
    codes "               steps of 0 or more, the first from slot 0, rising slots\n" ++
    codes "  port         1 to 65535                                      8554\n" ++
    codes "  bind         local: 127.0.0.1; all: every address            local\n" ++
    codes "  slot         length in 1/360000 second, 360 to 360000        14400\n" ++
    codes "  journal      most entries, 2 to 1048576                      65536\n" ++
    codes "  workers      connections at a time, 1 to 256                 32\n" ++
    codes "  connections  of each worker; 0 is no end                     0\n" ++
    codes "\n" ++
    codes "status 0 done, 1 check refused the certificate, 2 wrong arguments, 3 an input\n" ++
    codes "is refused, 4 a file can't be read, 5 the output can't be written, 6 out of\n" ++
    codes "memory, 7 the port failed, 8 the connection to a server failed. With 2 to 8\n" ++
    codes "one line on standard error says what. 'vodserve: usage' is status 2: a command\n" ++
    codes "or key is unknown, missing or given twice, or a value is out of its range.\n"
