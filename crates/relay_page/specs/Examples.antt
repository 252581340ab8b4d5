-- Worked pages (docs/FORMATS.md, Page): what a relay told, and the page of it.
use Rattle.std.specs.Prelude.{ℕ, List, ◌++◌, codes}

-- what each page begins with
abbrev pub begin : List ℕ
begin =
    codes "<!DOCTYPE html>\n"
    ++ codes "<html lang=\"en\">\n"
    ++ codes "<head>\n"
    ++ codes "<meta charset=\"utf-8\">\n"
    ++ codes "<meta name=\"viewport\" content=\"width=device-width, initial-scale=1\">\n"
    ++ codes "<title>cnrelay</title>\n"
    ++ codes "<style>\n"
    ++ codes "body{font:1em/1.4 sans-serif;margin:0 auto;max-width:60em;padding:.5em}\n"
    ++ codes "h3{margin:1em 0 .2em;overflow-wrap:anywhere}\n"
    ++ codes "p{margin:.2em 0}\n"
    ++ codes "span{display:inline-block;margin-right:1em}\n"
    ++ codes ".bar{background:#ddd;height:1em}\n"
    ++ codes ".bar div{background:#36c;height:1em}\n"
    ++ codes ".wide{overflow-x:auto}\n"
    ++ codes "table{border-collapse:collapse}\n"
    ++ codes "th,td{border:1px solid #bbb;padding:.2em .4em;text-align:right}\n"
    ++ codes "</style>\n"
    ++ codes "</head>\n"
    ++ codes "<body>\n"
    ++ codes "<h1>cnrelay</h1>\n"

-- what each page says of what was refused before its rows
abbrev pub refused_begin : List ℕ
refused_begin =
    codes "<h3>Refused, by reason</h3>\n"
    ++ codes "<div class=\"wide\"><table>\n"
    ++ codes "<tr><th>peer</th><th>more than maxart</th><th>no article</th><th>another id</th>"
    ++ codes "<th>wrong Path</th><th>was here before</th><th>wrong date</th>"
    ++ codes "<th>no entry of storage.conf</th><th>larger than a buffer</th></tr>\n"

-- what a relay tells of two buffers, the second in its third cycle, two feeds and two peers, of the
-- first of whom nothing was refused
abbrev pub served : List ℕ
served =
    codes "buffer A                         0                 371          5          4\n"
    ++ codes "buffer B.2                       2                2500         30         29\n"
    ++ codes "feed   p2                       30                  40          1\n"
    ++ codes "feed   p3                       10                  10          0\n"
    ++ codes "ids              1          2          3          4\n"
    ++ codes "peer p2 open=1 accepted=0 known=2 refused=0 later=0"
    ++ codes " octets=340282366920938463463374607431768211455 offers=5\n"
    ++ codes "peer p3 open=0 accepted=7 known=8 refused=9 later=10 octets=11 offers=0\n"
    ++ codes "refused p2 Size=0 Grammar=0 IdMismatch=0 BadPath=0 Loop=0 Date=0 NoClass=0"
    ++ codes " TooLarge=0\n"
    ++ codes "refused p3 Size=0 Grammar=1 IdMismatch=0 BadPath=0 Loop=3 Date=5 NoClass=0"
    ++ codes " TooLarge=0\n"
    ++ codes "from p2=192.0.2.1\n"
    ++ codes "from p3=2001:db8::3\n"
    ++ codes "size buffer=A blocks=1000 filled=371\n"
    ++ codes "size buffer=B.2 blocks=1000 filled=1000\n"
    ++ codes "oldest buffer=B.2 since=1764547200\n"

-- and its page
abbrev pub served_page : List ℕ
served_page =
    begin ++ codes "<h2>Buffers</h2>\n"
    ++ codes "<h3>A</h3>\n"
    ++ codes "<div class=\"bar\"><div style=\"width:37%\"></div></div>\n"
    ++ codes "<p>\n"
    ++ codes "<span>cycle <b>0</b></span>\n"
    ++ codes "<span>front <b>371</b></span>\n"
    ++ codes "<span>articles begun <b>5</b></span>\n"
    ++ codes "<span>articles whole <b>4</b></span>\n"
    ++ codes "<span>blocks <b>1000</b></span>\n"
    ++ codes "<span>filled <b>371</b></span>\n"
    ++ codes "</p>\n"
    ++ codes "<h3>B.2</h3>\n"
    ++ codes "<div class=\"bar\"><div style=\"width:100%\"></div></div>\n"
    ++ codes "<p>\n"
    ++ codes "<span>cycle <b>2</b></span>\n"
    ++ codes "<span>front <b>2500</b></span>\n"
    ++ codes "<span>articles begun <b>30</b></span>\n"
    ++ codes "<span>articles whole <b>29</b></span>\n"
    ++ codes "<span>blocks <b>1000</b></span>\n"
    ++ codes "<span>filled <b>1000</b></span>\n"
    ++ codes "<span>oldest article since <b>1764547200</b></span>\n"
    ++ codes "</p>\n"
    ++ codes "<h2>Feeds</h2>\n"
    ++ codes "<h3>p2</h3>\n"
    ++ codes "<div class=\"bar\"><div style=\"width:100%\"></div></div>\n"
    ++ codes "<p>\n"
    ++ codes "<span>waiting <b>30</b></span>\n"
    ++ codes "<span>gained <b>40</b></span>\n"
    ++ codes "<span>overwritten <b>1</b></span>\n"
    ++ codes "</p>\n"
    ++ codes "<h3>p3</h3>\n"
    ++ codes "<div class=\"bar\"><div style=\"width:33%\"></div></div>\n"
    ++ codes "<p>\n"
    ++ codes "<span>waiting <b>10</b></span>\n"
    ++ codes "<span>gained <b>10</b></span>\n"
    ++ codes "<span>overwritten <b>0</b></span>\n"
    ++ codes "</p>\n"
    ++ codes "<h2>Message-ids</h2>\n"
    ++ codes "<p>\n"
    ++ codes "<span>offered <b>1</b></span>\n"
    ++ codes "<span>storing <b>2</b></span>\n"
    ++ codes "<span>stored <b>3</b></span>\n"
    ++ codes "<span>refused <b>4</b></span>\n"
    ++ codes "</p>\n"
    ++ codes "<h2>Peers</h2>\n"
    ++ codes "<div class=\"wide\"><table>\n"
    ++ codes "<tr><th>peer</th><th>open</th><th>accepted</th><th>known</th>"
    ++ codes "<th>refused</th><th>later</th><th>octets</th><th>offers</th></tr>\n"
    ++ codes "<tr><th>p2</th><td>1</td><td>0</td><td>2</td><td>0</td><td>0</td>"
    ++ codes "<td>340282366920938463463374607431768211455</td><td>5</td></tr>\n"
    ++ codes "<tr><th>p3</th><td>0</td><td>7</td><td>8</td><td>9</td><td>10</td><td>11</td>"
    ++ codes "<td>0</td></tr>\n"
    ++ codes "</table></div>\n"
    ++ refused_begin
    ++ codes "<tr><th>p3</th><td>0</td><td>1</td><td>0</td><td>0</td><td>3</td><td>5</td>"
    ++ codes "<td>0</td><td>0</td></tr>\n"
    ++ codes "</table></div>\n"
    ++ codes "<h3>Newest connections</h3>\n"
    ++ codes "<p>\n"
    ++ codes "<span>p2=192.0.2.1</span>\n"
    ++ codes "<span>p3=2001:db8::3</span>\n"
    ++ codes "</p>\n"
    ++ codes "<p>Lines of the report that are not known here: <b>0</b></p>\n"
    ++ codes "</body>\n"
    ++ codes "</html>\n"

-- what a relay tells that is being repaired
abbrev pub recovering : List ℕ
recovering =
    codes "recovering\n"
    ++ codes "buffer A\n"

-- and its page
abbrev pub recovering_page : List ℕ
recovering_page =
    begin ++ codes "<p>The relay is being repaired and serves nobody yet.</p>\n"
    ++ codes "<h2>Buffers</h2>\n"
    ++ codes "<h3>A</h3>\n"
    ++ codes "<h2>Feeds</h2>\n"
    ++ codes "<h2>Message-ids</h2>\n"
    ++ codes "<h2>Peers</h2>\n"
    ++ codes "<div class=\"wide\"><table>\n"
    ++ codes "<tr><th>peer</th><th>open</th><th>accepted</th><th>known</th>"
    ++ codes "<th>refused</th><th>later</th><th>octets</th><th>offers</th></tr>\n"
    ++ codes "</table></div>\n"
    ++ refused_begin
    ++ codes "</table></div>\n"
    ++ codes "<h3>Newest connections</h3>\n"
    ++ codes "<p>\n"
    ++ codes "</p>\n"
    ++ codes "<p>Lines of the report that are not known here: <b>0</b></p>\n"
    ++ codes "</body>\n"
    ++ codes "</html>\n"

-- the line that a relay is paused
abbrev pub paused : List ℕ
paused = codes "paused\n"

-- and its page
abbrev pub paused_page : List ℕ
paused_page =
    begin ++ codes "<p>The relay is paused and takes no new articles.</p>\n"
    ++ codes "<h2>Buffers</h2>\n"
    ++ codes "<h2>Feeds</h2>\n"
    ++ codes "<h2>Message-ids</h2>\n"
    ++ codes "<h2>Peers</h2>\n"
    ++ codes "<div class=\"wide\"><table>\n"
    ++ codes "<tr><th>peer</th><th>open</th><th>accepted</th><th>known</th>"
    ++ codes "<th>refused</th><th>later</th><th>octets</th><th>offers</th></tr>\n"
    ++ codes "</table></div>\n"
    ++ refused_begin
    ++ codes "</table></div>\n"
    ++ codes "<h3>Newest connections</h3>\n"
    ++ codes "<p>\n"
    ++ codes "</p>\n"
    ++ codes "<p>Lines of the report that are not known here: <b>0</b></p>\n"
    ++ codes "</body>\n"
    ++ codes "</html>\n"

-- A name that no configuration has, a buffer whose size has another name, one of no blocks of whose
-- oldest article two lines tell, a size without a key, and lines that are not known, of which no LF
-- ends the last.
abbrev pub odd : List ℕ
odd =
    codes "feed <b>&\"' 0 2 3\n"
    ++ codes "buffer B 0 1 1 1\n"
    ++ codes "buffer C 0 2 2 2\n"
    ++ codes "size buffer=C blocks=8 filled=3\n"
    ++ codes "size buffer=C blocks=0 filled=0\n"
    ++ codes "oldest buffer=C since=7\n"
    ++ codes "oldest buffer=C since=8\n"
    ++ codes "size D blocks=8 filled=3\n"
    ++ codes "from <p>=192.0.2.1\n"
    ++ codes "memory 5\n"
    ++ codes "ids 1 2"

-- and their page
abbrev pub odd_page : List ℕ
odd_page =
    begin ++ codes "<h2>Buffers</h2>\n"
    ++ codes "<h3>B</h3>\n"
    ++ codes "<p>\n"
    ++ codes "<span>cycle <b>0</b></span>\n"
    ++ codes "<span>front <b>1</b></span>\n"
    ++ codes "<span>articles begun <b>1</b></span>\n"
    ++ codes "<span>articles whole <b>1</b></span>\n"
    ++ codes "</p>\n"
    ++ codes "<h3>C</h3>\n"
    ++ codes "<p>\n"
    ++ codes "<span>cycle <b>0</b></span>\n"
    ++ codes "<span>front <b>2</b></span>\n"
    ++ codes "<span>articles begun <b>2</b></span>\n"
    ++ codes "<span>articles whole <b>2</b></span>\n"
    ++ codes "<span>blocks <b>0</b></span>\n"
    ++ codes "<span>filled <b>0</b></span>\n"
    ++ codes "<span>oldest article since <b>7</b></span>\n"
    ++ codes "</p>\n"
    ++ codes "<h2>Feeds</h2>\n"
    ++ codes "<h3>&lt;b&gt;&amp;&quot;&#39;</h3>\n"
    ++ codes "<p>\n"
    ++ codes "<span>waiting <b>0</b></span>\n"
    ++ codes "<span>gained <b>2</b></span>\n"
    ++ codes "<span>overwritten <b>3</b></span>\n"
    ++ codes "</p>\n"
    ++ codes "<h2>Message-ids</h2>\n"
    ++ codes "<h2>Peers</h2>\n"
    ++ codes "<div class=\"wide\"><table>\n"
    ++ codes "<tr><th>peer</th><th>open</th><th>accepted</th><th>known</th>"
    ++ codes "<th>refused</th><th>later</th><th>octets</th><th>offers</th></tr>\n"
    ++ codes "</table></div>\n"
    ++ refused_begin
    ++ codes "</table></div>\n"
    ++ codes "<h3>Newest connections</h3>\n"
    ++ codes "<p>\n"
    ++ codes "<span>&lt;p&gt;=192.0.2.1</span>\n"
    ++ codes "</p>\n"
    ++ codes "<p>Lines of the report that are not known here: <b>3</b></p>\n"
    ++ codes "</body>\n"
    ++ codes "</html>\n"

-- the page of an empty report
abbrev pub empty_page : List ℕ
empty_page =
    begin ++ codes "<h2>Buffers</h2>\n"
    ++ codes "<h2>Feeds</h2>\n"
    ++ codes "<h2>Message-ids</h2>\n"
    ++ codes "<h2>Peers</h2>\n"
    ++ codes "<div class=\"wide\"><table>\n"
    ++ codes "<tr><th>peer</th><th>open</th><th>accepted</th><th>known</th>"
    ++ codes "<th>refused</th><th>later</th><th>octets</th><th>offers</th></tr>\n"
    ++ codes "</table></div>\n"
    ++ refused_begin
    ++ codes "</table></div>\n"
    ++ codes "<h3>Newest connections</h3>\n"
    ++ codes "<p>\n"
    ++ codes "</p>\n"
    ++ codes "<p>Lines of the report that are not known here: <b>0</b></p>\n"
    ++ codes "</body>\n"
    ++ codes "</html>\n"
